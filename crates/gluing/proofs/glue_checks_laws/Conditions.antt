-- The conditions of a glue, part by part.
use Rattle.gluing.proofs.Prelude.{◌≡◌, ℕ, Bool, true, false, cond, not, ◌&&◌, ◌||◌, nat_eq, List, ◌++◌, Option, Some, None, Result, Ok, Err, is_err, unwrap_or, refl, sym, ap, ◌∙◌, arith, true≢false, reverse, nat_tests, get, Model, LoopRow, no_loop, content, face_of, solid_of, outer, faces_of, Sound, Has, Condition, first_refusal, verdict, is_lone, lists, zero_first_where, first_fails, or_true, loop_number, all_hold, verdict_passed, verdict_failed, first_refusal-append, first_refusal-front, first_refusal-refused, none_found, none_is_lone, faces_of_both, least_lone, taken_in, numbers_left, face_conditions, faces_are_flat, outline_conditions, early_glue_conditions, glue_conditions, has_repeats, is_rotation, outline, RepeatedPoint, NoMatch, early_refusal}
use Rattle.euler_operators.specs.declared.Refusal.{Refusal}
use Rattle.shapes.proofs.glue.Facts.{faces_there}
use Rattle.solid_measure.proofs.solid_checks_laws.FaceWalks.{member_faces, member_both}
use Rattle.solid_walks.proofs.face_walks_laws.Above.{member, lists_member}

-- a verdict that is an error is the whole verdict
pub first_failed : (xs ys : List Condition) (v : Result (Unit {0}) Refusal) → v ≡ verdict (first_refusal xs) → is_err v ≡ true → v ≡ verdict (first_refusal (xs ++ ys))
first_failed xs ys (Ok u) is e = absurd (true≢false (sym e))
first_failed xs ys (Err r) is e = ap verdict (sym (first_refusal-refused xs ys r (verdict_failed (first_refusal xs) r is)))

-- and one that isn't leaves the rest
pub all_passed : (xs : List Condition) (v : Result (Unit {0}) Refusal) → v ≡ verdict (first_refusal xs) → is_err v ≡ false → first_refusal xs ≡ None
all_passed xs (Ok u) is e = verdict_passed (first_refusal xs) u is
all_passed xs (Err r) is e = absurd (true≢false e)

-- the third of three conditions fails, and is told
third_told : (a b d : Bool) (p q r : Refusal) → a ≡ false → b ≡ false → d ≡ false → cond (not a) (cond (not b) (cond d None (Some r)) (Some q)) (Some p) ≡ Some r
third_told a b d p q r e h k = rw (e, h, k) refl

-- the faces' outlines don't lie on one another
pub no_match : (M : Model) (f g : ℕ) (v : Result (Unit {0}) Refusal) → has_repeats (outline M f) ≡ false → has_repeats (outline M g) ≡ false → is_rotation (outline M f) (reverse (outline M g)) ≡ false
    → v ≡ Err (record { why = NoMatch; number = g }) → v ≡ verdict (first_refusal (outline_conditions M f g))
no_match M f g v first second turned is =
    let told : first_refusal (outline_conditions M f g) ≡ Some (record { why = NoMatch; number = g }) =
    third_told (has_repeats (outline M f)) (has_repeats (outline M g)) (is_rotation (outline M f) (reverse (outline M g))) (record { why = RepeatedPoint; number = f }) (record { why = RepeatedPoint; number = g }) (record { why = NoMatch; number = g }) first second turned in
    is ∙ ap verdict (sym told)

module _ (M : Model) (sound : Sound M) where
  -- where no loop of some faces is lone, none of their outer loops is
  pub outer_held : (fs : List ℕ) (f : ℕ) → least_lone M fs ≡ None → Has M.faces f → lists fs f ≡ true → is_lone (content M (outer M f)) ≡ false
  unfolding content face_of
  outer_held fs f none there listed = row_held (get M.loops (outer M f)) refl where
    its_face : face_of M (outer M f) ≡ f
    its_face = (sound.outers_there f there).1

    row_held : (o : Option LoopRow) → get M.loops (outer M f) ≡ o → is_lone (unwrap_or (get M.loops (outer M f)) no_loop).content ≡ false
    row_held None e = ap (λ o. is_lone (unwrap_or o no_loop).content) e
    row_held (Some row) e =
        let p = zero_first_where (λ _ row. is_lone row.content && lists fs row.face) M.loops (loop_number M sound) (none_is_lone M fs none) (outer M f) row e in
        let face : row.face ≡ f = sym (ap (λ o. (unwrap_or o no_loop).face) e) ∙ its_face in
        ap (λ o. is_lone (unwrap_or o no_loop).content) e ∙ first_fails (is_lone row.content) (lists fs row.face) p (ap (lists fs) face ∙ listed)

  listed_first : (s t f : ℕ) → Has M.faces f → solid_of M f ≡ s → lists (faces_of_both M s t) f ≡ true
  listed_first s t f there e = lists_member (faces_of_both M s t) f ∙ member_both M s t f ∙ ap (λ b. b || member f (faces_of M t)) (member_faces M s f ∙ (let n : nat_eq (solid_of M f) s ≡ true = grind (arith, nat_tests) in λ i. there i && n i))

  listed_second : (s t f : ℕ) → Has M.faces f → solid_of M f ≡ t → lists (faces_of_both M s t) f ≡ true
  listed_second s t f there e = lists_member (faces_of_both M s t) f ∙ member_both M s t f ∙ ap (λ b. member f (faces_of M s) || b) (member_faces M t f ∙ (let n : nat_eq (solid_of M f) t ≡ true = grind (arith, nat_tests) in λ i. there i && n i)) ∙ or_true (member f (faces_of M s))

-- the conditions of a glue, one part after the other
module _ (M : Model) (f g : ℕ) where
  abbrev both : List ℕ
  both = faces_of_both M (solid_of M f) (solid_of M g)

  -- all but those on the numbers that are left
  abbrev before_numbers : List Condition
  before_numbers = early_glue_conditions M f g ++ outline_conditions M f g

  abbrev numbers : List Condition
  numbers = numbers_left (taken_in M) (record { faces = 0; loops = 0; edges = 1; vertices = 0 })

  -- where nothing refuses a glue, no condition is false that is tested before memory is asked for
  pub none_early : first_refusal (glue_conditions M f g) ≡ None → early_refusal M f g ≡ None
  unfolding glue_conditions
  none_early accepted = first_refusal-front (early_glue_conditions M f g) (outline_conditions M f g) (first_refusal-front before_numbers numbers accepted)

  early_failed : (v : Result (Unit {0}) Refusal) → v ≡ verdict (early_refusal M f g) → is_err v ≡ true → v ≡ verdict (first_refusal (glue_conditions M f g))
  unfolding glue_conditions
  early_failed v is e = first_failed before_numbers numbers v (first_failed (early_glue_conditions M f g) (outline_conditions M f g) v is e) e

  pub faces_failed : (v : Result (Unit {0}) Refusal) → v ≡ verdict (first_refusal (face_conditions M f g)) → is_err v ≡ true → v ≡ verdict (first_refusal (glue_conditions M f g))
  unfolding early_glue_conditions
  faces_failed v is e = early_failed v (first_failed (face_conditions M f g) (faces_are_flat M both) v is e) e

  module _ (faces : first_refusal (face_conditions M f g) ≡ None) where
    after_faces : first_refusal (faces_are_flat M both) ≡ early_refusal M f g
    unfolding early_glue_conditions
    after_faces = sym (first_refusal-append (face_conditions M f g) (faces_are_flat M both) faces)

    pub solids_failed : (v : Result (Unit {0}) Refusal) → v ≡ verdict (first_refusal (faces_are_flat M (faces_of_both M (solid_of M f) (solid_of M g)))) → is_err v ≡ true → v ≡ verdict (first_refusal (glue_conditions M f g))
    solids_failed v is e = early_failed v (is ∙ ap verdict after_faces) e

    module _ (solids : first_refusal (faces_are_flat M (faces_of_both M (solid_of M f) (solid_of M g))) ≡ None) where
      pub early_passed : early_refusal M f g ≡ None
      early_passed = sym after_faces ∙ solids

      after_solids : first_refusal (outline_conditions M f g) ≡ first_refusal before_numbers
      after_solids = sym (first_refusal-append (early_glue_conditions M f g) (outline_conditions M f g) early_passed)

      pub outlines_failed : (v : Result (Unit {0}) Refusal) → v ≡ verdict (first_refusal (outline_conditions M f g)) → is_err v ≡ true → v ≡ verdict (first_refusal (glue_conditions M f g))
      unfolding glue_conditions
      outlines_failed v is e = first_failed before_numbers numbers v (is ∙ ap verdict after_solids) e

      pub numbers_decide : first_refusal (outline_conditions M f g) ≡ None → first_refusal numbers ≡ first_refusal (glue_conditions M f g)
      unfolding glue_conditions
      numbers_decide outlines = sym (first_refusal-append before_numbers numbers (sym after_solids ∙ outlines))

      none_lone : least_lone M both ≡ None
      none_lone = none_found (least_lone M both) (all_hold (faces_are_flat M both) solids).0

      -- neither outer loop is lone
      module _ (sound : Sound M) where
        pub first_held : is_lone (content M (outer M f)) ≡ false
        first_held = let there = (faces_there M f g faces).0 in outer_held M sound both f none_lone there (listed_first M sound (solid_of M f) (solid_of M g) f there refl)

        pub second_held : is_lone (content M (outer M g)) ≡ false
        second_held = let there = (faces_there M f g faces).1 in outer_held M sound both g none_lone there (listed_second M sound (solid_of M f) (solid_of M g) g there refl)
