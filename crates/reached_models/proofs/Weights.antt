-- A number that each step of taking a model apart makes smaller.
use Rattle.reached_models.proofs.Prelude.{◌≡◌, ℕ, ◌+◌, ◌*◌, ◌<◌, List, [], ◌∷◌, length, None, All, refl, arith, All-nil, All-cons, Model, Sound, first_false, effect, Op, size, all_rings, loops_are, effect_keeps_sound, Leads, leads_one, leads_first}
use Rattle.reached_models.proofs.Takers.{IsTaker}

-- three for each edge, one for each loop, and one more for each ring
pub weight : Model → ℕ
weight M = 3 * size M.edges + size M.loops + length (all_rings M)

-- each loop that is no ring is the outer loop of a face, so this counts two for each loop, and one less for each face
lighter : (M N : Model) → Sound M → Sound N → 3 * size N.edges + 2 * size N.loops + size M.faces < 3 * size M.edges + 2 * size M.loops + size N.faces → weight N < weight M
unfolding weight
lighter M N sound after less = omega (arith, loops_are M sound, loops_are N after)

-- with as many edges, loops and faces it weighs the same
pub as_heavy : (M N : Model) → Sound M → Sound N → size N.edges ≡ size M.edges → size N.loops ≡ size M.loops → size N.faces ≡ size M.faces → weight N ≡ weight M
unfolding weight
as_heavy M N sound after edges loops faces = omega (arith, loops_are M sound, loops_are N after)

-- some operators make a lighter model
pub record Shrinks (M : Model) : Type 0 where
  pub ops : List Op
  pub next : Model
  pub leads : Leads M next ops
  pub takers : All IsTaker ops
  pub less : weight next < weight M

pub shrinks_by : (M : Model) (op : Op) → IsTaker op → Sound M → first_false M op ≡ None →
    3 * size (effect M op).edges + 2 * size (effect M op).loops + size M.faces < 3 * size M.edges + 2 * size M.loops + size (effect M op).faces → Shrinks M
shrinks_by M op taker sound accepted less = record {
  ops = op ∷ [];
  next = effect M op;
  leads = leads_one M (effect M op) op accepted refl;
  takers = All-cons IsTaker op [] taker (All-nil IsTaker);
  less = lighter M (effect M op) sound (effect_keeps_sound M op sound accepted) less;
}

-- an operator that makes a model as heavy, and then some that make a lighter one
pub shrinks_after : (M N : Model) (op : Op) → IsTaker op → first_false M op ≡ None → effect M op ≡ N → weight N ≡ weight M → Shrinks N → Shrinks M
shrinks_after M N op taker accepted made same s = record {
  ops = op ∷ s.ops;
  next = s.next;
  leads = leads_first M N s.next op s.ops accepted made s.leads;
  takers = All-cons IsTaker op s.ops taker s.takers;
  less = omega (arith, s.less, same);
}
