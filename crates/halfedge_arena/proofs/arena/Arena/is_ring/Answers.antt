use Rattle.std.proofs.Common.{◌≡◌, ◌∙◌, Bool, true, ◌&&◌, not, nat_eq, sym, ap, true≢false}
use Rattle.halfedge_arena.proofs.arena.Arena.is_ring.Goals.{then-has, else-has}
use Rattle.halfedge_arena.proofs.arena.Arena.is_ring.Goals as goal

all : (a b x y : Bool) → a ≡ true → b ≡ true → x ≡ y → x ≡ a && b && y
all a b x y p q e = rw (p, q) e

pub returns-then-face_of-f : goal.returns-then-face_of-f
returns-then-face_of-f c =
    elim c.if-has.branch [
      | then-has w ↦ all _ _ _ _ (sym c.has.ensures.used ∙ w.if-has.true) (ap (λ n. nat_eq n c.args.f) (sym w.face_of.ensures) ∙ sym w.value-is ∙ c.if-face_of-f.true) (ap (λ n. not (nat_eq n c.args.l)) c.outer.ensures)
      | else-has w ↦ absurd (true≢false (sym c.if-face_of-f.true ∙ w.value-is ∙ w.if-has.false))
    ]
