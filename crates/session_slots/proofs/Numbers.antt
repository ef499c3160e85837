-- What an arena tells of the model that it holds.
use Rattle.session_slots.proofs.Prelude.{◌≡◌, ℕ, false, [], Option, Some, None, is_some, unwrap_or, true≢false, refl, ap, subst, code, has, Model, LoopContent, LoopRow, no_loop, lone, cycle, HalfEdge, Kind, Solid, Sound, Content, Store, IsNextNumber, store_of, IsItemOf, in-holds}
use Rattle.session_slots.specs.Common.{items_of, content, loop_of, cycle_of}
use Rattle.euler_conditions.specs.Store.{Tells}
use Rattle.euler_conditions.proofs.Borders.{ring_has}

here : (s : Store) (k : Kind) (n : ℕ) (o : Option ℕ) → IsNextNumber s k n o → IsNextNumber (store_of s.model) k n o
here s Solid n None h = h
here s k n None h = h
here s Solid n (Some m) h = h
here s k n (Some m) h = h

pub next_held : (s : Store) (M : Model) → s.model ≡ M → (k : Kind) (n : ℕ) (o : Option ℕ) → IsNextNumber s k n o → IsNextNumber (store_of M) k n o
next_held s M is k n o h = subst (λ (N : Model). IsNextNumber (store_of N) k n o) is (here s k n o h)

pub ring_item : (c : LoopContent) (h : HalfEdge) → Tells c (Content.Ring h) → IsItemOf c (Some (code h))
ring_item (lone v) h e = absurd e
ring_item (cycle hs) h e = e

-- the half-edge that is told stands in the loop, and its cycle is the loop's
pub told_loop : (M : Model) → Sound M → (l : ℕ) (h : HalfEdge) → Tells (content M l) (Content.Ring h) → loop_of M (code h) ≡ l
told_loop M sound l h t = sound.one_loop (code h) l (in-holds (code h) (content M l) (ring_has (content M l) h t))

pub told_cycle : (M : Model) → Sound M → (l : ℕ) (h : HalfEdge) → Tells (content M l) (Content.Ring h) → cycle_of M (code h) ≡ items_of (content M l)
told_cycle M sound l h t = ap (λ k. items_of (content M k)) (told_loop M sound l h t)

-- a lone loop has no half-edge
pub lone_items : (c : LoopContent) (v : ℕ) → Tells c (Content.Lone v) → items_of c ≡ []
lone_items (lone w) v e = refl
lone_items (cycle hs) v e = absurd e

-- a loop that is not there has no half-edge
pub absent_items : (M : Model) (l : ℕ) → has M.loops l ≡ false → items_of (content M l) ≡ []
unfolding content
absent_items M l none = items_of_none _ none where
  items_of_none : (o : Option LoopRow) → is_some o ≡ false → items_of (unwrap_or o no_loop).content ≡ []
  items_of_none None e = refl
  items_of_none (Some row) e = absurd (true≢false e)
