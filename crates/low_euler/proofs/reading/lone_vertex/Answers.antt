use Rattle.low_euler.proofs.Prelude.{◌≡◌, ℕ, true, true≢false, sym, ap, ◌∙◌, LoopContent, lone, cycle, is_lone, lone_vertex, HalfEdge, Tells}
use Rattle.euler_operators.specs.declared.Content.TheVariants as Content
use Rattle.low_euler.proofs.reading.lone_vertex.Goals as goal

told : (k : LoopContent) (v : ℕ) → Tells k (Content.Lone v) → v ≡ lone_vertex k
told (lone w) v t = t
told (cycle hs) v t = absurd t

no_ring : (k : LoopContent) (h : HalfEdge) → is_lone k ≡ true → Tells k (Content.Ring h) → ⊥
no_ring (lone w) h is t = t
no_ring (cycle hs) h is t = true≢false (sym is)

pub content-requires-clause-filled : goal.content-requires-clause-filled
content-requires-clause-filled c = λ e. true≢false (sym c.requires.lone ∙ ap is_lone e)
