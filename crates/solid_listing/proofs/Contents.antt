-- What an arena tells of a loop.
use Rattle.solid_listing.proofs.Prelude.{◌≡◌, ℕ, map, refl, sym, ap, ◌∙◌, IsIn, HalfEdge, code, Model, LoopContent, lone, cycle, items_of, content, cycle_of, Sound, HasHalf, in-holds}
use Rattle.euler_operators.specs.declared.Content.TheVariants as Content
use Rattle.euler_conditions.specs.Store.{Tells}
use Rattle.solid_listing.specs.Listing.{content_words, half_word}

pub lone_told : (c : LoopContent) (v : ℕ) → Tells c (Content.Lone v) → lone v ≡ c
lone_told (lone w) v e = ap lone e
lone_told (cycle hs) v e = absurd e

ring_told : (c : LoopContent) (h : HalfEdge) → Tells c (Content.Ring h) → IsIn (code h) (items_of c) × (c ≡ cycle (items_of c))
ring_told (lone v) h e = absurd e
ring_told (cycle hs) h e = (e, refl)

module _ (M : Model) (sound : Sound M) (l : ℕ) where
  -- the half-edge that is told stands in the loop
  pub told_there : (h : HalfEdge) → Tells (content M l) (Content.Ring h) → HasHalf M (code h)
  told_there h t = sound.only_edges (code h) l (in-holds (code h) (content M l) (ring_told (content M l) h t).0)

  pub told_words : (h : HalfEdge) → Tells (content M l) (Content.Ring h) → map half_word (cycle_of M (code h)) ≡ content_words (content M l)
  told_words h t =
      ap (λ k. map half_word (items_of (content M k))) (sound.one_loop (code h) l (in-holds (code h) (content M l) (ring_told (content M l) h t).0))
      ∙ sym (ap content_words (ring_told (content M l) h t).1)
