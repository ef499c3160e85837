use Rattle.solid_walks.proofs.Prelude.{◌≡◌, ℕ, false, true≢false, ap, subst, refl, Content, is_lone, code, LoopContent, lone, cycle, content, items_of, StandsIn, in-holds, Tells}
use Rattle.euler_operators.specs.declared.Content.TheVariants.{Lone}
use Rattle.euler_conditions.proofs.Borders.{ring_has}
use Rattle.solid_walks.proofs.face_walks.items.some_item.Goals as goal
use Rattle.solid_walks.proofs.face_walks.items.some_item.Goals.{In-Ring}

pub content-requires-clause-filled : goal.content-requires-clause-filled
content-requires-clause-filled c e = (c.requires.ready.sound.cycles c.args.l _ c.requires.there e).some_item refl

stands : (c : In-Ring) → StandsIn c.args.arena.now.model (code c.in-Ring.h) c.args.l
stands c = in-holds (code c.in-Ring.h) (content c.args.arena.now.model c.args.l) (ring_has (content c.args.arena.now.model c.args.l) c.in-Ring.h (subst (Tells (content c.args.arena.now.model c.args.l)) c.in-Ring.is c.content.ensures))

pub returns-clause-there : goal.returns-clause-there
returns-clause-there c = c.requires.ready.sound.only_edges (code c.in-Ring.h) c.args.l (stands c)

pub returns-clause-inside : goal.returns-clause-inside
returns-clause-inside c = ap (λ q. items_of (content c.args.arena.now.model q)) (c.requires.ready.sound.one_loop (code c.in-Ring.h) c.args.l (stands c))

-- a loop that isn't lone is not told as lone
never_lone : (k : LoopContent) (c : Content) (v : ℕ) → Tells k c → c ≡ Lone v → is_lone k ≡ false → ⊥
never_lone (lone w) c v t is held = true≢false held
never_lone (cycle hs) c v t is held = subst (Tells (cycle hs)) is t

pub unreachable-requires : goal.unreachable-requires
unreachable-requires c = never_lone (content c.args.arena.now.model c.args.l) c.content.result c.in-Lone.field-0 c.content.ensures c.in-Lone.is c.requires.held
