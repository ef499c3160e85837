-- The inverse of an operator, from what the arena's readers answer.
use Rattle.low_euler.proofs.Prelude.{◌≡◌, ℕ, Bool, cond, nat_eq, ◌&&◌, List, Some, None, sym, ap, subst, ◌∙◌, Point, Corner, At, Lone, HalfEdge, code, half, mate, IsIn, IsApart, between, beyond, successor, Model, items_of, tail, loop_of, face_of, outer, content, point_of, faces_of, cycle_of, Sound, HasHalf, first_false, lone_vertex, inverse, head_or_zero, kev_corner, kev_corner_mate, corner_of, half-code, mate_other, edge_of-mate, cycle_there, cycle_sound, only_item, one_face, Op, Mvfs, Kvfs, Mev, Kev, Mef, Kef, Kemr, Mekr, kemr_goes}
use Rattle.euler_operators.specs.Common.{after}
use Rattle.euler_operators.specs.Table as table
use Rattle.low_euler.proofs.Parts.{corner_between, between_back}

-- a half-edge by its code
pub half_then : (h : HalfEdge) {n : ℕ} → code h ≡ n → h ≡ half n
half_then h e = sym (half-code h) ∙ ap half e

module _ (M : Model) where
  of_face : ℕ → ℕ → Op
  of_face s f = let v = lone_vertex (content M (outer M f)) in Mvfs s f (outer M f) v (point_of M v)

  pub kvfs_inverse : (s f l v : ℕ) (p : Point) → only_item (faces_of M s) ≡ Some f → l ≡ outer M f → v ≡ lone_vertex (content M l) → p ≡ point_of M v → Mvfs s f l v p ≡ inverse M (Kvfs s)
  unfolding inverse of_face
  kvfs_inverse s f l v p only le ve pe =
      ap (Mvfs s f l v) pe
      ∙ ap (λ u. Mvfs s f l u (point_of M u)) (ve ∙ ap (λ k. lone_vertex (content M k)) le)
      ∙ ap (λ k. Mvfs s f k (lone_vertex (content M (outer M f))) (point_of M (lone_vertex (content M (outer M f))))) le
      ∙ ap (of_face s) (sym (ap head_or_zero (one_face (faces_of M s) f only)))

  pub kev_inverse : (h m : HalfEdge) (c d : Corner) (v : ℕ) (p : Point) → code m ≡ mate (code h) → c ≡ kev_corner M (code h) → d ≡ kev_corner_mate M (code h) → v ≡ tail M (code m) → p ≡ point_of M v → Mev c d h v p ≡ inverse M (Kev h)
  unfolding inverse
  kev_inverse h m c d v p me ce de ve pe =
      ap (Mev c d h v) pe
      ∙ ap (λ u. Mev c d h u (point_of M u)) (ve ∙ ap (tail M) me)
      ∙ ap (λ x. Mev x d h (tail M (mate (code h))) (point_of M (tail M (mate (code h))))) ce
      ∙ ap (λ y. Mev (kev_corner M (code h)) y h (tail M (mate (code h))) (point_of M (tail M (mate (code h))))) de

  pub kef_inverse : (h m a b : HalfEdge) (f l : ℕ) → code m ≡ mate (code h) → a ≡ half (after M (code m)) → b ≡ half (after M (code h)) → l ≡ loop_of M (code m) → f ≡ face_of M l → Mef a b h f l ≡ inverse M (Kef h)
  unfolding inverse
  kef_inverse h m a b f l me ae be le fe =
      ap (λ g. Mef a b h g l) fe
      ∙ ap (λ k. Mef a b h (face_of M k) k) (le ∙ ap (loop_of M) me)
      ∙ ap (λ x. Mef x b h (face_of M (loop_of M (mate (code h)))) (loop_of M (mate (code h)))) (ae ∙ ap (λ k. half (after M k)) me)
      ∙ ap (λ y. Mef (half (after M (mate (code h)))) y h (face_of M (loop_of M (mate (code h)))) (loop_of M (mate (code h)))) be

  -- the corner at the item after one half-edge, or of the loop l where another comes next
  abbrev pub next_corner : ℕ → ℕ → ℕ → Corner
  next_corner g end l = cond (nat_eq (after M g) end) (Lone l) (At (half (after M g)))

  module _ (sound : Sound M) where
    pub kemr_inverse : (h m : HalfEdge) (l : ℕ) (c d : Corner) (k : ℕ) → first_false M (Kemr h l) ≡ None → code m ≡ mate (code h) → k ≡ loop_of M (code h) → c ≡ next_corner (code m) (code h) k → d ≡ next_corner (code h) (code m) l → Mekr c d h ≡ inverse M (Kemr h l)
    unfolding inverse after
    kemr_inverse h m l c d k ok me ke ce de =
        let g : ℕ = code h in
        let n : ℕ = mate (code h) in
        let hs : List ℕ = cycle_of M g in
        let there : HasHalf M g = (kemr_goes M h l ok).h_there in
        let mate_there : HasHalf M n = ap (table.has M.edges) (edge_of-mate g) ∙ there in
        let apart : IsApart hs = (cycle_sound M sound g there).apart in
        let one : cycle_of M n ≡ hs = ap (λ q. items_of (content M q)) (sym (kemr_goes M h l ok).one_loop) in
        let i : IsIn g hs = cycle_there M sound g there in
        let j : IsIn n hs = subst (IsIn n) one (cycle_there M sound n mate_there) in
        let first : c ≡ corner_of (beyond g n hs) (loop_of M g) =
        ce ∙ ap (λ q. next_corner q g k) me ∙ ap (next_corner n g) ke
        ∙ ap (λ xs. cond (nat_eq (successor xs n) g) (Lone (loop_of M g)) (At (half (successor xs n)))) one
        ∙ sym (corner_between hs apart n g j i (λ e. mate_other g (sym e)) (loop_of M g))
        ∙ ap (λ xs. corner_of xs (loop_of M g)) (between_back hs apart g n i j (mate_other g)) in
        let second : d ≡ corner_of (between g n hs) l =
        de ∙ ap (λ q. next_corner g q l) me ∙ sym (corner_between hs apart g n i j (mate_other g) l) in
        ap (λ x. Mekr x d h) first ∙ ap (λ y. Mekr (corner_of (beyond g n hs) (loop_of M g)) y h) second

  -- the two corners of mev, by what comes after the half-edge and after its mate
  module _ (h m a b : HalfEdge) (me : code m ≡ mate (code h)) (ae : code a ≡ after M (code h)) (be : code b ≡ after M (code m)) where
    back_is : code b ≡ after M (mate (code h))
    back_is = be ∙ ap (after M) me

    module _ (turns returns : Bool) (l : ℕ) (t : nat_eq (code a) (code m) ≡ turns) (r : nat_eq (code b) (code h) ≡ returns) (le : l ≡ loop_of M (code h)) where
      turned : turns ≡ nat_eq (after M (code h)) (mate (code h))
      turned = sym t ∙ (λ i. nat_eq (ae i) (me i))

      returned : returns ≡ nat_eq (after M (mate (code h))) (code h)
      returned = sym r ∙ ap (λ k. nat_eq k (code h)) back_is

      pub corners : (cond turns (cond returns (Lone l) (At b)) (At a) ≡ kev_corner M (code h)) × (cond (turns && returns) (Lone l) (At b) ≡ kev_corner_mate M (code h))
      corners = (
        λ i. cond (turned i) (cond (returned i) (Lone (le i)) (At (half_then b back_is i))) (At (half_then a ae i)),
        λ i. cond (turned i && returned i) (Lone (le i)) (At (half_then b back_is i)),
      )
