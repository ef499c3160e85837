-- The least lone loop of a face, of some faces, of two solids.
use Rattle.solid_walks.proofs.Prelude.{◌≡◌, ℕ, Bool, true, ◌&&◌, ◌||◌, nat_eq, List, [], ◌∷◌, Option, Some, None, is_some, unwrap_or, refl, sym, ap, ◌∙◌, arith, inl, inr, length, eqb-true, get, has, all_where, Model, LoopRow, no_loop, face_of, outer, content, rings_of, faces_of, Sound, Has, lists, is_lone, and_false, and_first, and_second, nat_eq_itself, one_or_more, or_false, same_truth, first_listed, rest_listed, outer_or_ring, loops_of, least_lone, faces_of_both, face_of_loop, ring_listed, lesser, least_such, only}
use Rattle.solid_walks.proofs.face_walks_laws.Above.{member, lists_member, AllAbove, all_above_members}
use Rattle.solid_walks.proofs.face_walks_laws.TableWalks.{passes, member_passing}
use Rattle.solid_walks.proofs.lone_laws.Searches.{IsLeast, and_or, one_least, least_same, least_either, least_listed, least_row, lesser_none}
use Rattle.solid_walks.proofs.face_walks_laws.FaceWalks.{member_both}

spread : (a b c d : Bool) → (a && (b && c)) || (a && (b && d)) ≡ a && (b && (c || d))
spread a b c d = and_or a (b && c) (b && d) ∙ ap (λ e. a && e) (and_or b c d)

module _ (M : Model) where
  abbrev pub lone_at : ℕ → Bool
  lone_at l = is_lone (content M l)

  -- the least lone loop of some loops
  abbrev pub lone_of : List ℕ → Option ℕ
  lone_of ls = least_such lone_at ls

  -- loop k is lone and of one of these faces
  abbrev lone_in : List ℕ → ℕ → Bool
  lone_in fs k = is_lone (content M k) && (has M.loops k && lists fs (face_of M k))

  abbrev lone_row : List ℕ → ℕ → LoopRow → Bool
  lone_row fs l row = is_lone row.content && lists fs row.face

  row_passes : (fs : List ℕ) (k : ℕ) → passes (lone_row fs) k (get M.loops k) ≡ lone_in fs k
  unfolding content face_of
  row_passes fs k = lone_passes (get M.loops k) where
    lone_passes : (o : Option LoopRow) → passes (lone_row fs) k o ≡ is_lone (unwrap_or o no_loop).content && (is_some o && lists fs (unwrap_or o no_loop).face)
    lone_passes None = refl
    lone_passes (Some row) = refl

  there : (fs : List ℕ) (k : ℕ) (o : Option LoopRow) → passes (lone_row fs) k o ≡ true → is_some o ≡ true
  there fs k None e = e
  there fs k (Some row) e = refl

  module _ (sound : Sound M) where
    positive : (fs : List ℕ) → AllAbove 0 (all_where (lone_row fs) M.loops)
    positive fs = all_above_members 0 (all_where (lone_row fs) M.loops) (λ k m. one_or_more k (sound.loops_fit k (there fs k (get M.loops k) (sym (member_passing (lone_row fs) M.loops k) ∙ m))))

    found_least : (fs : List ℕ) → IsLeast (lone_in fs) (least_lone M fs)
    found_least fs = least_same (λ k. passes (lone_row fs) k (get M.loops k)) (lone_in fs) (row_passes fs) (least_lone M fs) (least_row (lone_row fs) M.loops (positive fs))

    member_loops : (f k : ℕ) → Has M.faces f → member k (loops_of M f) ≡ has M.loops k && nat_eq f (face_of M k)
    unfolding loops_of
    member_loops f k here = sym (lists_member (loops_of M f) k) ∙ same_truth (lists (outer M f ∷ rings_of M f) k) (has M.loops k && nat_eq f (face_of M k))
        (λ l. let p = face_of_loop M sound f k here l in (λ i. p.0 i && nat_eq f (p.1 i)) ∙ nat_eq_itself f)
        (λ e. elim (outer_or_ring M f k (and_first (has M.loops k) _ e) (sym (eqb-true f (face_of M k) (and_second (has M.loops k) _ e)))) [
          | inl o ↦ ap (λ q. lists (q ∷ rings_of M f) k) o ∙ first_listed k (rings_of M f)
          | inr r ↦ rest_listed (outer M f) k (rings_of M f) (ring_listed M sound f k r)
        ])

    -- the least lone loop of a face is the least of its loops that is lone
    pub face_lone : (f : ℕ) → Has M.faces f → lone_of (loops_of M f) ≡ least_lone M (f ∷ [])
    face_lone f here = one_least (lone_in (f ∷ [])) (lone_of (loops_of M f)) (least_lone M (f ∷ []))
        (least_same (λ k. lone_at k && member k (loops_of M f)) (lone_in (f ∷ []))
        (λ k. ap (λ b. lone_at k && b) (member_loops f k here ∙ ap (λ b. has M.loops k && b) (sym (or_false (nat_eq f (face_of M k))))))
        (lone_of (loops_of M f)) (least_listed lone_at (loops_of M f)))
        (found_least (f ∷ []))

    -- that of a face with no ring is its outer loop, if that is lone
    pub ringless_lone : (f : ℕ) → Has M.faces f → length (rings_of M f) ≡ 0 → only (lone_at (outer M f)) (outer M f) ≡ least_lone M (f ∷ [])
    unfolding loops_of
    ringless_lone f here e = sym (lesser_none (only (lone_at (outer M f)) (outer M f))) ∙ sym (ap (λ rs. lone_of (outer M f ∷ rs)) (none_left (rings_of M f) e)) ∙ face_lone f here where
      none_left : (rs : List ℕ) → length rs ≡ 0 → rs ≡ []
      none_left [] e = refl
      none_left (r ∷ rs) e = absurd (omega (arith, e))

    -- that of the faces of two lists is the lesser of two
    least_of_two : (fs gs hs : List ℕ) → ((k : ℕ) → lists hs k ≡ lists fs k || lists gs k) → lesser (least_lone M fs) (least_lone M gs) ≡ least_lone M hs
    least_of_two fs gs hs both = one_least (lone_in hs) (lesser (least_lone M fs) (least_lone M gs)) (least_lone M hs)
        (least_same (λ k. lone_in fs k || lone_in gs k) (lone_in hs)
        (λ k. spread (lone_at k) (has M.loops k) (lists fs (face_of M k)) (lists gs (face_of M k)) ∙ ap (λ b. lone_at k && (has M.loops k && b)) (sym (both (face_of M k))))
        (lesser (least_lone M fs) (least_lone M gs))
        (least_either (lone_in fs) (lone_in gs) (least_lone M fs) (least_lone M gs) (found_least fs) (found_least gs)))
        (found_least hs)

    -- that of one face more
    pub least_more : (f : ℕ) (fs : List ℕ) → least_lone M (f ∷ fs) ≡ lesser (least_lone M (f ∷ [])) (least_lone M fs)
    least_more f fs = sym (least_of_two (f ∷ []) fs (f ∷ fs) (λ k. ap (λ b. b || lists fs k) (sym (or_false (nat_eq f k)))))

    pub least_none : least_lone M [] ≡ None
    least_none = one_least (lone_in []) (least_lone M []) None (found_least []) (λ k. ap (λ b. lone_at k && b) (and_false (has M.loops k)) ∙ and_false (lone_at k))

    both_lists : (s t k : ℕ) → lists (faces_of_both M s t) k ≡ lists (faces_of M s) k || lists (faces_of M t) k
    both_lists s t k = lists_member (faces_of_both M s t) k ∙ member_both M s t k ∙ sym (λ i. lists_member (faces_of M s) k i || lists_member (faces_of M t) k i)

    -- and that of two solids
    pub both_lone : (s t : ℕ) → lesser (least_lone M (faces_of M s)) (least_lone M (faces_of M t)) ≡ least_lone M (faces_of_both M s t)
    both_lone s t = least_of_two (faces_of M s) (faces_of M t) (faces_of_both M s t) (both_lists s t)
