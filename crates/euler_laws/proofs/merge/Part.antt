-- part as an operator: it keeps a sound model sound. merge and part pass their conditions after each other, and take each other back.
use Rattle.euler_laws.proofs.Prelude.{◌≡◌, ◌≢◌, ℕ, Bool, true, false, cond, not, nat_eq, ◌||◌, List, [], ◌∷◌, ◌++◌, Some, None, unwrap_or, is_some, IsTrue, refl, sym, ap, ◌∙◌, subst, arith, inl, inr, true≢false, eq-eqb, ne_eqb, eqb-true, nat_tests, eqb_tells, not-true, not-false, mate, edge_of, plus, minus, map_rows, Model, FaceRow, no_face, loop_of, face_of, solid_of, outer, is_number, faces_of, Sound, Has, HasHalf, AllHold, first_false, conditions, numbers_in_range, faces_known, faces_in, face_at, lists, lists_all, strictly_rises, is_empty, torn_edge, differ, effect, inverse, merge, part, faces_to_solid, plus_row, mate_plus, mate_minus, put-remove, remove-put, map_same, first_where_zero, zero_first_where, no_row, row_some, row_elsewhere, mate_there, Merge, Part}
use Rattle.euler_operators.specs.Table as table
use Rattle.euler_laws.proofs.shared.Goes.{◌also◌, all_hold, none_refuses, not_false, taken, no_zero, all_hold-append, all_hold-front, all_hold-back}
use Rattle.euler_laws.proofs.shared.Fans.{half_face}
use Rattle.euler_laws.proofs.shared.Arcs.{halves_of_edge}
use Rattle.euler_laws.proofs.shared.Same.{map_twice}
use Rattle.euler_laws.proofs.shared.Parts.{RowSet, row_here, has_on, has_back}
use Rattle.euler_laws.proofs.shared.Rows.{face_there, solid_row}
use Rattle.euler_laws.proofs.shared.Listed.{listed_as, listed_passes, passes_listed, all_where-rises, first_listed, rest_listed, listed_cases}
use Rattle.euler_laws.proofs.merge.Merge as joins
use Rattle.euler_laws.proofs.merge.Merge.{OtherSolids, sound-solids, face_same, loop_same, has_moved, outer_moved, solid_moved, MergeGoes, merge_goes, merge_accepted, sound-merge}
use Rattle.euler_laws.proofs.shared.Lawful.{IsLawful}

-- what the conditions of part say
pub record PartGoes (M : Model) (s t : ℕ) (fs : List ℕ) : Type 0 where
  pub s_there : Has M.solids s
  pub t_free : table.get M.solids t ≡ None
  pub t_fits : IsTrue (is_number t)
  pub each : (f : ℕ) → lists fs f ≡ true → Has M.faces f × (solid_of M f ≡ s)
  pub listed : (f : ℕ) × (lists fs f ≡ true)
  pub rises : strictly_rises fs ≡ true
  pub left : (f : ℕ) × Has M.faces f × (solid_of M f ≡ s) × (lists fs f ≡ false)
  pub whole : (x : ℕ) → HasHalf M x → lists fs (face_at M x) ≡ lists fs (face_at M (mate x))

-- the solid of face q, which was of solid n
abbrev pub parted : List ℕ → ℕ → ℕ → ℕ → ℕ
parted fs t q n = cond (lists fs q) t n

module _ {M : Model} (sound : Sound M) {s t : ℕ} {fs : List ℕ} (goes : PartGoes M s t fs) where
  abbrev pub N : Model
  N = part M s t fs

  faces_are : N.faces ≡ map_rows (faces_to_solid (λ f _. lists fs f) t) M.faces
  unfolding part
  faces_are = refl

  pub part_other : OtherSolids M N
  unfolding part
  part_other = grind (arith, has_moved M N, faces_are, outer_moved M N)

  pub solid_new : (q : ℕ) → Has M.faces q → solid_of N q ≡ parted fs t q (solid_of M q)
  solid_new q there = solid_moved M N (λ f _. lists fs f) t faces_are q there

  solid_listed : (q : ℕ) → lists fs q ≡ true → solid_of N q ≡ t
  solid_listed q l = solid_new q (goes.each q l).0 ∙ ap (λ b. cond b t (solid_of M q)) l

  solid_unlisted : (q : ℕ) → Has M.faces q → lists fs q ≡ false → solid_of N q ≡ solid_of M q
  solid_unlisted q there l = solid_new q there ∙ ap (λ b. cond b t (solid_of M q)) l

  solid_put : RowSet M.solids N.solids t (Some tt)
  unfolding part
  solid_put = record { are = refl }

  pub t_new : Has N.solids t
  t_new = ap is_some (row_here solid_put)

  pub not_t : (n : ℕ) → Has M.solids n → n ≢ t
  not_t n there = row_elsewhere M.solids n t there goes.t_free

  pub solid_on : (n : ℕ) → Has M.solids n → Has N.solids n
  solid_on n there = has_on solid_put n (not_t n there) there

  face_of_solid : (n q : ℕ) (b : Bool) → lists fs q ≡ b → Has M.faces q → solid_of M q ≡ n → n ≢ t → (f : ℕ) × Has M.faces f × (solid_of N f ≡ n)
  face_of_solid n q true l there e a = let o = goes.left in (o.0, o.1, solid_unlisted o.0 o.1 o.3 ∙ o.2 ∙ sym (goes.each q l).1 ∙ e)
  face_of_solid n q false l there e a = (q, there, solid_unlisted q there l ∙ e)

  pub sound-part : Sound N
  sound-part = sound-solids part_other sound
      (λ q there. subst (Has N.solids) (sym (solid_new q there)) (either (lists fs q) q (sound.faces_of_solids q there)))
      (λ n there. elim (eqb_tells n t) [
        | inl e ↦ let o = goes.listed in (o.0, (goes.each o.0 o.1).0, solid_listed o.0 o.1 ∙ sym e.1)
        | inr e ↦ let x = sound.solid_has_face n (has_back solid_put n e.1 there) in face_of_solid n x.0 (lists fs x.0) refl x.1 x.2 e.1
      ])
      (λ x there. solid_new _ (half_face M sound x there) ∙ (λ i. cond (goes.whole x there i) t (sound.one_solid x there i)) ∙ sym (solid_new _ (half_face M sound (mate x) (mate_there M x there))))
      (λ n there. elim (eqb_tells n t) [ inl e ↦ subst (λ y. IsTrue (is_number y)) (sym e.1) goes.t_fits | inr e ↦ sound.solids_fit n (has_back solid_put n e.1 there) ]) where
        either : (b : Bool) (q : ℕ) → Has M.solids (solid_of M q) → Has N.solids (cond b t (solid_of M q))
        either true q there = t_new
        either false q there = solid_on (solid_of M q) there

  pub join_goes : MergeGoes N s t
  join_goes = record { s_there = solid_on s goes.s_there; t_there = t_new; apart = not_t s goes.s_there }

  -- part is taken back by merge
  row_back : (q : ℕ) (row : FaceRow) → table.get M.faces q ≡ Some row →
      faces_to_solid (λ _ row. nat_eq row.solid t) s q (faces_to_solid (λ f _. lists fs f) t q row) ≡ row
  unfolding solid_of
  row_back q row at = given_back (lists fs q)
      (λ l. sym (ap (λ o. (unwrap_or o no_face).solid) at) ∙ (goes.each q l).1)
      (λ e. not_t (solid_of M q) (sound.faces_of_solids q (ap is_some at)) (ap (λ o. (unwrap_or o no_face).solid) at ∙ e)) where
        abbrev_row : Bool → FaceRow
        abbrev_row b = cond b (record row { solid = t }) row

        given_back : (b : Bool) → (b ≡ true → row.solid ≡ s) → row.solid ≢ t → cond (nat_eq (abbrev_row b).solid t) (record (abbrev_row b) { solid = s }) (abbrev_row b) ≡ row
        given_back true e a = let y : nat_eq t t ≡ true = grind (arith, nat_tests) in
            ap (λ b. cond b (record row { solid = s }) (record row { solid = t })) y ∙ (λ i. record { solid = sym (e refl) i; outer = row.outer })
        given_back false e a = let y : nat_eq row.solid t ≡ false = grind (arith, nat_tests) in ap (λ b. cond b (record row { solid = s }) row) y

  faces_back : (merge N s t).faces ≡ M.faces
  unfolding merge part
  faces_back = map_twice (faces_to_solid (λ _ row. nat_eq row.solid t) s) (faces_to_solid (λ f _. lists fs f) t) M.faces ∙ map_same _ M.faces row_back

  pub merge-part : merge N s t ≡ M
  unfolding merge part
  merge-part = λ i. record { solids = remove-put M.solids t tt goes.t_free i; faces = faces_back i; loops = M.loops; edges = M.edges; vertices = M.vertices }

-- a face stands in the list of its solid
pub face_in : (M : Model) (s q : ℕ) → lists (faces_of M s) q ≡ true → Has M.faces q × (solid_of M q ≡ s)
unfolding solid_of
face_in M s q l = grind (arith, listed_passes)

pub in_faces : (M : Model) (s q : ℕ) → Has M.faces q → solid_of M q ≡ s → lists (faces_of M s) q ≡ true
in_faces M s q there e = passes_listed (λ _ row. nat_eq row.solid s) M.faces q (record { solid = solid_of M q; outer = outer M q }) (face_there M q there) (eq-eqb _ _ e)

-- ---- merge is taken back by part

module _ {M : Model} (sound : Sound M) {s t : ℕ} (goes : MergeGoes M s t) where
  abbrev J : Model
  J = merge M s t

  -- a face stands in the list where it is of the solid that goes
  face_listed : (q : ℕ) → Has M.faces q → lists (faces_of M t) q ≡ nat_eq (solid_of M q) t
  face_listed q there = listed_as (λ _ row. nat_eq row.solid t) M.faces q (record { solid = solid_of M q; outer = outer M q }) (face_there M q there)

  face_at_same : (x : ℕ) → face_at J x ≡ face_at M x
  face_at_same x = let o = joins.merge_other sound goes in ap (face_of J) (loop_same o x) ∙ face_same o (loop_of M x)

  half_back : (x : ℕ) → HasHalf J x → HasHalf M x
  unfolding merge
  half_back x there = there

  face_on : (q : ℕ) → Has M.faces q → Has J.faces q
  face_on q there = (joins.merge_other sound goes).has_face q ∙ there

  pub split_goes : PartGoes J s t (faces_of M t)
  split_goes = record {
    s_there = has_on (joins.solid_taken sound goes) s goes.apart goes.s_there;
    t_free = row_here (joins.solid_taken sound goes);
    t_fits = sound.solids_fit t goes.t_there;
    each = λ f l. let x = face_in M t f l in (face_on f x.0, joins.solid_new sound goes f x.0 ∙ ap (joins.joined s t) x.1 ∙ joins.joined_t sound goes);
    listed = let x = sound.solid_has_face t goes.t_there in (x.0, face_listed x.0 x.1 ∙ eq-eqb (solid_of M x.0) t x.2);
    rises = all_where-rises (λ _ row. nat_eq row.solid t) M.faces;
    left = let x = sound.solid_has_face s goes.s_there in
        (x.0, face_on x.0 x.1, joins.solid_new sound goes x.0 x.1 ∙ ap (joins.joined s t) x.2 ∙ joins.joined_same sound goes s goes.apart, face_listed x.0 x.1 ∙ ap (λ n. nat_eq n t) x.2 ∙ ne_eqb s t goes.apart);
    whole = grind (arith, half_back, face_at_same, face_listed, half_face M sound, sound, sound.one_solid, mate_there M);
  }

  row_home : (q : ℕ) (row : FaceRow) → table.get M.faces q ≡ Some row →
      faces_to_solid (λ f _. lists (faces_of M t) f) t q (faces_to_solid (λ _ row. nat_eq row.solid t) s q row) ≡ row
  row_home q row at = grind (arith, listed_as (λ _ row. nat_eq row.solid t) M.faces q row at, nat_tests)

  faces_home : (part J s t (faces_of M t)).faces ≡ M.faces
  unfolding merge part
  faces_home = map_twice (faces_to_solid (λ f _. lists (faces_of M t) f) t) (faces_to_solid (λ _ row. nat_eq row.solid t) s) M.faces ∙ map_same _ M.faces row_home

  pub part-merge : part (merge M s t) s t (faces_of M t) ≡ M
  unfolding merge part
  part-merge = λ i. record { solids = put-remove M.solids t tt (solid_row M t goes.t_there) i; faces = faces_home i; loops = M.loops; edges = M.edges; vertices = M.vertices }

-- ---- conditions

-- conditions on each number of a list
numbers_hold : (fs : List ℕ) → ((f : ℕ) → lists fs f ≡ true → is_number f ≡ true) → AllHold (numbers_in_range fs)
numbers_hold [] each = tt
numbers_hold (f ∷ fs) each = (each f (first_listed f fs), numbers_hold fs (λ q l. each q (rest_listed f q fs l)))

faces_known-hold : (M : Model) (fs : List ℕ) → ((f : ℕ) → lists fs f ≡ true → table.has M.faces f ≡ true) → AllHold (faces_known M fs)
faces_known-hold M [] each = tt
faces_known-hold M (f ∷ fs) each = (each f (first_listed f fs), faces_known-hold M fs (λ q l. each q (rest_listed f q fs l)))

pub faces_known-there : (M : Model) (fs : List ℕ) → AllHold (faces_known M fs) → (f : ℕ) → lists fs f ≡ true → Has M.faces f
faces_known-there M [] h f l = absurd (true≢false (sym l))
faces_known-there M (g ∷ fs) h f l = elim (listed_cases g f fs l) [ inl e ↦ ap (table.has M.faces) e ∙ h.0 | inr r ↦ faces_known-there M fs h.1 f r ]

faces_in-hold : (M : Model) (s : ℕ) (fs : List ℕ) → ((f : ℕ) → lists fs f ≡ true → solid_of M f ≡ s) → AllHold (faces_in M s fs)
faces_in-hold M s [] each = tt
faces_in-hold M s (f ∷ fs) each = (eq-eqb _ _ (each f (first_listed f fs)), faces_in-hold M s fs (λ q l. each q (rest_listed f q fs l)))

faces_in-solid : (M : Model) (s : ℕ) (fs : List ℕ) → AllHold (faces_in M s fs) → (f : ℕ) → lists fs f ≡ true → solid_of M f ≡ s
faces_in-solid M s [] h f l = absurd (true≢false (sym l))
faces_in-solid M s (g ∷ fs) h f l = elim (listed_cases g f fs l) [ inl e ↦ ap (solid_of M) e ∙ eqb-true _ _ h.0 | inr r ↦ faces_in-solid M s fs h.1 f r ]

pub listed_in_solid : (M : Model) (s : ℕ) (fs : List ℕ) → AllHold (faces_known M fs ++ faces_in M s fs) → (f : ℕ) → lists fs f ≡ true → Has M.faces f × (solid_of M f ≡ s)
listed_in_solid M s fs h f l = grind (arith, faces_known-there, all_hold-front, faces_in-solid, all_hold-back)

-- the four causes of a bad part
or_false : (a b c d : Bool) → a ≡ false → b ≡ false → c ≡ false → d ≡ false → (a || b || c || d) ≡ false
or_false a b c d w x y z = λ i. w i || x i || y i || z i

false_or : (a b c d : Bool) → (a || b || c || d) ≡ false → (a ≡ false) × (b ≡ false) × (c ≡ false) × (d ≡ false)
false_or true b c d e = absurd (true≢false e)
false_or false true c d e = absurd (true≢false e)
false_or false false true d e = absurd (true≢false e)
false_or false false false true e = absurd (true≢false e)
false_or false false false false e = (refl, refl, refl, refl)

some_listed : (fs : List ℕ) → is_empty fs ≡ false → (f : ℕ) × (lists fs f ≡ true)
some_listed [] e = absurd (true≢false e)
some_listed (f ∷ fs) e = (f, first_listed f fs)

listed_some : (fs : List ℕ) (f : ℕ) → lists fs f ≡ true → is_empty fs ≡ false
listed_some [] f l = absurd (true≢false (sym l))
listed_some (g ∷ fs) f l = refl

-- not all of a list stand in another
left_out : (fs ns : List ℕ) → lists_all fs ns ≡ false → (f : ℕ) × (lists ns f ≡ true) × (lists fs f ≡ false)
left_out fs [] e = absurd (true≢false e)
left_out fs (n ∷ ns) e = grind (arith, left_out fs ns)

out_left : (fs ns : List ℕ) (f : ℕ) → lists ns f ≡ true → lists fs f ≡ false → lists_all fs ns ≡ false
out_left fs [] f l o = absurd (true≢false (sym l))
out_left fs (n ∷ ns) f l o = grind (arith, out_left fs ns f)

-- no edge is torn
means_same : (a b : Bool) → differ a b ≡ false → a ≡ b
means_same true true e = refl
means_same true false e = absurd (true≢false e)
means_same false b e = sym e

not_torn : (M : Model) (fs : List ℕ) → ((x : ℕ) → HasHalf M x → lists fs (face_at M x) ≡ lists fs (face_at M (mate x))) → torn_edge M fs ≡ 0
not_torn M fs whole = grind (arith, first_where_zero, plus_row, mate_plus)

torn_not : (M : Model) (fs : List ℕ) → Sound M → torn_edge M fs ≡ 0 → (x : ℕ) → HasHalf M x → lists fs (face_at M x) ≡ lists fs (face_at M (mate x))
torn_not M fs sound z x there =
    let w = row_some (table.get M.edges (edge_of x)) there in
    let e : lists fs (face_at M (plus (edge_of x))) ≡ lists fs (face_at M (minus (edge_of x))) = means_same _ _
    (zero_first_where (λ e _. differ (lists fs (face_at M (plus e))) (lists fs (face_at M (minus e)))) M.edges (λ q row at s. no_zero q s (sound.edges_fit q (ap is_some at))) z (edge_of x) w.0 w.1) in
    grind (arith, halves_of_edge x, mate_plus (edge_of x), mate_minus (edge_of x))

pub part_goes : (M : Model) (s t : ℕ) (fs : List ℕ) → Sound M → first_false M (Part s t fs) ≡ None → PartGoes M s t fs
unfolding first_false conditions
part_goes M s t fs sound e =
    let (_, (t_fits, after_numbers)) = all_hold (conditions M (Part s t fs)) e in
    let (s_known, (t_free, of_faces)) = all_hold-back (numbers_in_range fs) _ after_numbers in
    let (good, _) = all_hold-back (faces_known M fs ++ faces_in M s fs) _ of_faces in
    let (filled, rises, not_all, not_torn) = false_or (is_empty fs) (not (strictly_rises fs)) (lists_all fs (faces_of M s)) (not (nat_eq (torn_edge M fs) 0)) (not-true _ good) in
    let o = left_out fs (faces_of M s) not_all in
    let i = face_in M s o.0 o.1 in
    record {
      s_there = s_known;
      t_free = no_row _ (not-true _ t_free);
      t_fits = t_fits;
      each = listed_in_solid M s fs (all_hold-front (faces_known M fs ++ faces_in M s fs) _ of_faces);
      listed = some_listed fs filled;
      rises = not-false (strictly_rises fs) rises;
      left = (o.0, i.0, i.1, o.2);
      whole = torn_not M fs sound (eqb-true _ _ (not-false (nat_eq (torn_edge M fs) 0) not_torn));
    }

pub part_accepted : (N : Model) (s t : ℕ) (fs : List ℕ) → Sound N → PartGoes N s t fs → first_false N (Part s t fs) ≡ None
unfolding first_false conditions
part_accepted N s t fs sound goes =
    let o = goes.left in
    none_refuses (conditions N (Part s t fs)) (
    sound.solids_fit s goes.s_there
    also goes.t_fits
    also all_hold-append (numbers_in_range fs) _ (numbers_hold fs (λ f l. sound.faces_fit f (goes.each f l).0)) (
    goes.s_there
    also not_false _ (taken _ goes.t_free)
    also all_hold-append (faces_known N fs ++ faces_in N s fs) _ (all_hold-append (faces_known N fs) (faces_in N s fs) (faces_known-hold N fs (λ f l. (goes.each f l).0)) (faces_in-hold N s fs (λ f l. (goes.each f l).1))) (
    not_false _ (or_false (is_empty fs) (not (strictly_rises fs)) (lists_all fs (faces_of N s)) (not (nat_eq (torn_edge N fs) 0))
    (listed_some fs goes.listed.0 goes.listed.1)
    (ap not goes.rises)
    (out_left fs (faces_of N s) o.0 (in_faces N s o.0 o.1 o.2) o.3)
    (ap not (eq-eqb _ _ (not_torn N fs goes.whole))))
    also tt
    )))

-- ---- the operators

pub merge_lawful : (s t : ℕ) → IsLawful (Merge s t)
unfolding effect inverse
merge_lawful s t M sound e = let w = merge_goes M s t e in let good = sound-merge sound w in record {
  sound = good;
  goes = part_accepted (merge M s t) s t (faces_of M t) good (split_goes sound w);
  undone = part-merge sound w;
}

pub part_lawful : (s t : ℕ) (fs : List ℕ) → IsLawful (Part s t fs)
unfolding effect inverse
part_lawful s t fs M sound e = grind (arith, part_goes, sound-part, merge_accepted, join_goes, merge-part)
