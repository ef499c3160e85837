-- Why a split of a strictly convex solid can be refused: each other condition holds.
use Rattle.convex_laws.proofs.Prelude.{◌≡◌, ℕ, Bool, ◌+◌, true, false, cond, not, ◌&&◌, nat_eq, nat_lt, List, [], ◌∷◌, ◌++◌, length, None, Option, Some, is_some, refl, sym, ap, subst, ◌∙◌, arith, true≢false, Condition, IsIn, Model, Plane, faces_of, first_refusal, Sound, IsIn_head, IsIn_rest, count-filter, filter_passes, IsIn-from_listed, below_halves, face_is_above, faces_above, first_conditions, first_such, has_stray_hole, is_cut_often, is_flat, is_touched, later_conditions, least_branched, least_lone, section_conditions, section_cycles, section_ends, split_conditions, straddles, straddling_faces, with_drawings, early_split_conditions, CanBegin, face_facts, solid_facts, rewritings_sound, AreOf, held, ConvexSplitsAreRefusedFor, IsStrictlyConvex, MayRefuseConvexSplit, all_on_one_side, cut_off_the_lattice, lone_loop, no_such_solid, number_out_of_range, numbers_spent, places_crossed, plane_out_of_range, solid_there_already, vertex_branched, stages}
use Rattle.euler_operators.specs.declared.Refusal.{Refusal}
use Rattle.euler_operators.specs.declared.Why.{Why}
use Rattle.shapes.proofs.fresh.Tests.{none_found, zero_found}
use Rattle.split_opening_laws.proofs.cycles.NextBelow.{cycles_lead_round}
use Rattle.convex_laws.proofs.Caps.{none_of}
use Rattle.convex_laws.proofs.LoopsCut.{never_often}
use Rattle.convex_laws.proofs.Touched.{never_touched}

-- ---- lists of conditions

-- each condition that fails, if those before it hold, fails for one of these reasons
abbrev FailFor : (Why → Type 0) → List Condition → Type 0
FailFor P [] = Unit {0}
FailFor P (c ∷ cs) = (c.holds ≡ false → P c.refusal.why) × (c.holds ≡ true → FailFor P cs)

module _ (P : Why → Type 0) where
  no_refusal : (r : Refusal) → None ≡ Some r → ⊥
  no_refusal r e = true≢false (sym (ap is_some e))

  same_why : (q r : Refusal) → Some q ≡ Some r → P q.why → P r.why
  same_why q r e w = subst P (ap (why_of q) e) w where
    why_of : Refusal → Option Refusal → Why
    why_of q None = q.why
    why_of q (Some r) = r.why

  refused_for : (cs : List Condition) (r : Refusal) → FailFor P cs → first_refusal cs ≡ Some r → P r.why
  refused_for [] r w e = absurd (no_refusal r e)
  refused_for (c ∷ cs) r w e = by_test c.holds refl (λ h. refused_for cs r (w.1 h)) where
    by_test : (b : Bool) → c.holds ≡ b → (c.holds ≡ true → first_refusal cs ≡ Some r → P r.why) → P r.why
    by_test true h later = later h (ap (λ b. cond b (first_refusal cs) (Some c.refusal)) (sym h) ∙ e)
    by_test false h later = same_why c.refusal r (ap (λ b. cond b (first_refusal cs) (Some c.refusal)) (sym h) ∙ e) (w.0 h)

  both_fail : (cs ds : List Condition) → FailFor P cs → (first_refusal cs ≡ None → FailFor P ds) → FailFor P (cs ++ ds)
  both_fail [] ds w later = later refl
  both_fail (c ∷ cs) ds w later = (w.0, λ h. both_fail cs ds (w.1 h) (λ e. later (ap (λ b. cond b (first_refusal cs) (Some c.refusal)) h ∙ e)))

-- the first fails for this reason, and whether it does tells nothing of the rest
so : {A B X Y : Type 0} → X → Y → (A → X) × (B → Y)
so reason rest = (λ e. reason, λ h. rest)

-- a search for what isn't there doesn't fail
finds_none : (p : ℕ → Bool) (ns : List ℕ) → ((x : ℕ) → IsIn x ns → p x ≡ false) → not (is_some (first_such p ns)) ≡ false → ⊥
finds_none p ns each e = true≢false (ap (λ o. not (is_some o)) (sym (none ns each)) ∙ e) where
  none : (ns : List ℕ) → ((x : ℕ) → IsIn x ns → p x ≡ false) → first_such p ns ≡ None
  none [] each = refl
  none (n ∷ ns) each = ap (λ b. cond b (Some n) (first_such p ns)) (each n (IsIn_head n ns)) ∙ none ns (λ x i. each x (IsIn_rest x n ns i))

module _ (M : Model) (s : ℕ) (p : Plane) (t : ℕ) (sound : Sound M) (convex : IsStrictlyConvex M s) where
  straddling : (f : ℕ) → IsIn f (straddling_faces M p s) → straddles M p f ≡ true
  straddling f i = filter_passes (straddles M p) f (faces_of M s) i

  each_flat : (f : ℕ) → IsIn f (faces_of M s) → not (is_flat M f) ≡ false
  each_flat f i = let w = solid_facts M s f i in ap not (convex.convex.flat f w.0 w.1)

  first_fail : FailFor MayRefuseConvexSplit (first_conditions M s p t)
  unfolding first_conditions early_split_conditions
  first_fail =
      so number_out_of_range (so number_out_of_range (so no_such_solid (so solid_there_already (so plane_out_of_range (so plane_out_of_range (so plane_out_of_range (so plane_out_of_range (so plane_out_of_range (
        λ e. lone_loop,
        λ lone. (
          λ e. absurd (finds_none (λ f. not (is_flat M f)) (faces_of M s) each_flat e),
          λ h. so all_on_one_side (so cut_off_the_lattice (
            λ e. absurd (finds_none (is_touched M p) (straddling_faces M p s) (λ f i. let w = face_facts M s p f i in never_touched M s sound convex f w.0 w.1 p (straddling f i)) e),
            λ h. (
              λ e. absurd (finds_none (is_cut_often M p) (straddling_faces M p s) (λ f i. let w = face_facts M s p f i in never_often M s sound convex (none_found (least_lone M (faces_of M s)) lone) f w.0 w.1 p (straddling f i)) e),
              λ h. so places_crossed (so numbers_spent (so numbers_spent (so numbers_spent (so numbers_spent tt)))),
            ),
          )),
        ),
      )))))))))

  abbrev halves : List ℕ
  halves = below_halves (with_drawings M s p).model (faces_above (with_drawings M s p).model p s) s

  open stages M s p t use {drawn as D, above}

  above_of : AreOf (with_drawings M s p).model (faces_above (with_drawings M s p).model p s) s
  above_of f l = (solid_facts D s f (omega (arith, IsIn-from_listed f above l, count-filter (face_is_above D p) f (faces_of D s)))).1

  no_stray : CanBegin M s p t → (with_drawings M s p).stuck ≡ 0 → least_branched (with_drawings M s p).model (section_ends (with_drawings M s p).model halves) ≡ None →
      has_stray_hole (with_drawings M s p).model p (section_cycles (with_drawings M s p).model halves) ≡ false
  no_stray begun unstuck unbranched =
      let cs = section_cycles D halves in
      ap (λ hs. nat_lt 0 (length hs) && not (nat_eq (length cs) (length hs + 1)))
      (none_of M s p t sound begun unstuck convex cs (cycles_lead_round D above s (rewritings_sound M s p t sound begun) above_of unbranched))

  later_fail : CanBegin M s p t → FailFor MayRefuseConvexSplit (later_conditions s p (with_drawings M s p))
  unfolding section_conditions
  later_fail begun = (
    λ e. places_crossed,
    λ stuck. (
      λ e. vertex_branched,
      λ branched. (
        λ e. absurd (true≢false (sym (ap not (no_stray begun (zero_found (with_drawings M s p).stuck (none_found _ stuck)) (none_found _ branched))) ∙ e)),
        λ h. so numbers_spent (so numbers_spent (so numbers_spent (so numbers_spent tt))),
      ),
    ),
  )

pub convex_splits_are_refused_for : ConvexSplitsAreRefusedFor
unfolding split_conditions
convex_splits_are_refused_for m s p t r sound convex e =
    let M = held m in
    refused_for MayRefuseConvexSplit (first_conditions M s p t ++ later_conditions s p (with_drawings M s p)) r
    (both_fail MayRefuseConvexSplit (first_conditions M s p t) (later_conditions s p (with_drawings M s p)) (first_fail M s p t sound convex) (later_fail M s p t sound convex)) e
