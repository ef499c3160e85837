-- The items of a loop that is swept, as the code holds them, and the steps that it takes with them.
use Rattle.sweeps.proofs.Prelude.{◌≡◌, ℕ, suc, ◌+◌, ◌-◌, ◌<◌, ◌≤◌, List, [], ◌∷◌, ◌++◌, map, length, None, sym, append_assoc, ap, ◌∙◌, subst, arith, add-one, get_or, get_or-map, length-map, Point, IsInRange, moved, IsIn, HalfEdge, At, code, half, plus, Model, HasHalf, first_false, effect, IsIn-get_or, half-code, Mev, AreLeft, start, Taken, riser, raise_item, raise, close, close_last, rounds, loop_ops, half_there, two_items, Ready, needed_for_sides}
use Rattle.euler_laws.specs.Laws.{effects}
use Rattle.sweeps_laws.proofs.prism.Turns.{turn_half, turn_range, raises, raise_accepted, close_accepted, last_accepted}
use Rattle.sweeps_laws.proofs.prism.Loops.{first_accepted}

-- the operator that raises an item
pub same_raise : (M : Model) (c : Taken) (d : Point) (item : HalfEdge) (i : ℕ) (edge : HalfEdge) (p : Point) → edge ≡ half (plus (riser c.edge i)) → p ≡ moved (start M (code item)) d
    → Mev (At item) (At item) edge (c.vertex + 1 + i) p ≡ raise_item M c d (code item) i
same_raise M c d item i edge p e q = λ j. Mev (At (sym (half-code item) j)) (At (sym (half-code item) j)) (e j) (c.vertex + 1 + i) (q j)

module _ (M : Model) (c : Taken) (f l : ℕ) (d : Point) (hs : List ℕ) (w : Ready M c f l d hs) (items : List HalfEdge) (are : map code items ≡ hs) where
  pub how_many : length items ≡ length hs
  how_many = sym (length-map items code) ∙ ap length are

  pub has_room : (n : ℕ) → n ≡ length items → AreLeft c (needed_for_sides n)
  has_room n e = subst (λ k. AreLeft c (needed_for_sides k)) (sym (e ∙ how_many)) w.left

  pub item_is : (i : ℕ) (h : HalfEdge) → i < length hs → h ≡ get_or items i h → code h ≡ get_or hs i 0
  item_is i h lt e = ap code e ∙ sym (get_or-map code items i h 0 (let n = how_many in omega arith)) ∙ ap (λ xs. get_or xs i 0) are

  pub item_in : (i : ℕ) (h : HalfEdge) → i < length hs → h ≡ get_or items i h → IsIn (code h) hs
  item_in i h lt e = subst (λ k. IsIn k hs) (sym (item_is i h lt e)) (IsIn-get_or hs i 0 lt)

  some : 0 < length hs
  some = let t = two_items M c f l d hs w in omega arith

  -- the first item
  module _ (h : HalfEdge) (e : h ≡ get_or items 0 h) where
    pub there_first : HasHalf M (code h)
    there_first = half_there M c f l d hs w (code h) (item_in 0 h some e)

    pub range_first : IsInRange (moved (start M (code h)) d)
    range_first = w.points_fit (code h) (item_in 0 h some e)

    pub accepted_first : first_false M (raise_item M c d (code h) 0) ≡ None
    accepted_first = ap (λ k. first_false M (raise_item M c d k 0)) (item_is 0 h some e) ∙ first_accepted M c f l d hs w

    pub first_is : raise_item M c d (code h) 0 ∷ [] ≡ rounds M c d hs 0
    first_is = ap (λ k. raise_item M c d k 0 ∷ []) (item_is 0 h some e)

  -- one more
  module _ (i : ℕ) (X : Model) (x : X ≡ effects M (rounds M c d hs i)) (lt : i + 1 < length hs) (h : HalfEdge) (e : h ≡ get_or items (i + 1) h) where
    below : suc i < length hs
    below = omega (arith, lt)

    is_next : code h ≡ get_or hs (suc i) 0
    is_next = item_is (i + 1) h lt e ∙ ap (λ k. get_or hs k 0) (add-one i)

    pub there_next : HasHalf X (code h)
    there_next = subst (λ N. HasHalf N (code h)) (sym x) (turn_half M c f l d hs w i (omega (arith, lt)) (code h) (item_in (i + 1) h lt e))

    pub range_next : IsInRange (moved (start X (code h)) d)
    range_next = subst (λ N. IsInRange (moved (start N (code h)) d)) (sym x) (turn_range M c f l d hs w i (omega (arith, lt)) (code h) (item_in (i + 1) h lt e))

    op_is : raise_item X c d (code h) (i + 1) ≡ raise_item (effects M (rounds M c d hs i)) c d (get_or hs (suc i) 0) (suc i)
    op_is = λ j. raise_item (x j) c d (is_next j) (add-one i j)

    pub accepted_next : first_false X (raise_item X c d (code h) (i + 1)) ≡ None
    accepted_next = (λ j. first_false (x j) (op_is j)) ∙ raise_accepted M c f l d hs w i below

    module _ (Y : Model) (y : Y ≡ effect X (raise_item X c d (code h) (i + 1))) where
      made : Y ≡ effect (effects M (rounds M c d hs i)) (raise_item (effects M (rounds M c d hs i)) c d (get_or hs (suc i) 0) (suc i))
      made = y ∙ (λ j. effect (x j) (op_is j))

      pub closes_next : first_false Y (close c (length hs) i) ≡ None
      closes_next = ap (λ N. first_false N (close c (length hs) i)) made ∙ close_accepted M c f l d hs w i below

    pub round_is : (rounds M c d hs i ++ raise_item X c d (code h) (i + 1) ∷ []) ++ close c (length items) i ∷ [] ≡ rounds M c d hs (i + 1)
    round_is = (λ j. (rounds M c d hs i ++ (op_is ∙ raises M c f l d hs w i below) j ∷ []) ++ close c (how_many j) i ∷ [])
        ∙ append_assoc (rounds M c d hs i) (raise M c d hs (suc i) ∷ []) (close c (length hs) i ∷ [])
        ∙ ap (rounds M c d hs) (sym (add-one i))

  -- the last side
  module _ (i : ℕ) (X : Model) (x : X ≡ effects M (rounds M c d hs i)) (inside : i < length hs) (ends : length hs ≤ i + 1) where
    at_end : i ≡ length hs - 1
    at_end = omega (arith, inside, ends)

    all_rounds : X ≡ effects M (rounds M c d hs (length hs - 1))
    all_rounds = x ∙ ap (λ k. effects M (rounds M c d hs k)) at_end

    pub closes_last : first_false X (close_last c (length hs) (length hs - 1)) ≡ None
    closes_last = ap (λ N. first_false N (close_last c (length hs) (length hs - 1))) all_rounds ∙ last_accepted M c f l d hs w

    pub all_is : rounds M c d hs i ++ close_last c (length items) (length items - 1) ∷ [] ≡ loop_ops M c d hs
    all_is = λ j. rounds M c d hs (at_end j) ++ close_last c (how_many j) (how_many j - 1) ∷ []
