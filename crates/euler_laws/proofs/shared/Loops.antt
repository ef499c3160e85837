-- What a loop holds, changed one half-edge at a time; and how a model's walks follow from its loops and fans.
use Rattle.euler_laws.proofs.Prelude.{◌≡◌, ◌≢◌, ℕ, ◌+◌, cond, List, None, refl, sym, ap, ◌∙◌, subst, arith, ◌⊎◌, inl, inr, eqb_tells, count, tick, IsIn, IsApart, canonical, successor, IsRing, insert_before, without, redirect, led_over, mate, edge_of, Model, LoopContent, lone, cycle, items_of, holds, tail, loop_of, content, cycle_of, after, round, Sound, Has, HasHalf, StandsIn, Reaches, here, further, IsCycle, tick_same, tick_other, IsIn_or_not, IsRing-same, next_is_successor, IsRing-from_successor, ring_stays, canonical-rotates, count-canonical, IsApart-canonical, canonical-canonical, count-insert_before, count-without, without_none, IsRing-insert_before, IsRing-without, IsRing-redirect_other, IsRing-led_over_other, first_where_is, mate_there, content_row, held_row, in-holds, holds_in, holds-none, never_lone, mate-mate}
use Rattle.euler_operators.specs.Table as table
use Rattle.euler_laws.proofs.shared.Fans.{Fan, ring_reaches}

-- a loop is lone, or a cycle round which next leads
abbrev pub IsLoop : (ℕ → ℕ) → LoopContent → Type 0
IsLoop next (lone v) = Unit {0}
IsLoop next (cycle hs) = IsCycle hs × IsRing next hs

-- what any loop row may hold, also one that isn't there
abbrev pub IsLight : (ℕ → ℕ) → LoopContent → Type 0
IsLight next c = IsApart (items_of c) × IsRing next (items_of c)

pub canonical_cycle : (hs : List ℕ) → IsApart hs → (x : ℕ) → IsIn x hs → IsCycle (canonical hs)
canonical_cycle hs d x i = grind (arith, count-canonical x hs, IsApart-canonical hs d, canonical-canonical hs d)

pub canonical_ring : (next : ℕ → ℕ) (hs : List ℕ) → IsRing next hs → IsRing next (canonical hs)
canonical_ring next hs r = IsRing-same next hs (canonical hs) (canonical-rotates hs) r

-- ---- a half-edge put before another

abbrev pub put_before : ℕ → ℕ → LoopContent → LoopContent
put_before g h c = cond (holds g c) (cycle (canonical (insert_before g h (items_of c)))) c

pub put_there : (g h : ℕ) (c : LoopContent) → IsIn g (items_of c) → put_before g h c ≡ cycle (canonical (insert_before g h (items_of c)))
put_there g h c i = ap (λ b. cond b (cycle (canonical (insert_before g h (items_of c)))) c) (in-holds g c i)

pub put_none : (g h : ℕ) (c : LoopContent) → count g (items_of c) ≡ 0 → put_before g h c ≡ c
put_none g h c n = ap (λ b. cond b (cycle (canonical (insert_before g h (items_of c)))) c) (holds-none g c n)

pub put_lone : (g h v : ℕ) → put_before g h (lone v) ≡ lone v
put_lone g h v = put_none g h (lone v) refl

pub one_vertex : (a b : ℕ) → lone a ≡ lone b → a ≡ b
one_vertex a b e = cc

pub lone_put : (g h v : ℕ) (c : LoopContent) → put_before g h c ≡ lone v → c ≡ lone v
lone_put g h v c e = grind (arith, IsIn_or_not g (items_of c), never_lone, put_there g h c, put_none g h c)

pub count_put_there : (x g h : ℕ) (c : LoopContent) → IsIn g (items_of c) → count x (items_of (put_before g h c)) ≡ tick x h + count x (items_of c)
count_put_there x g h c i = ap (λ y. count x (items_of y)) (put_there g h c i) ∙ count-canonical x (insert_before g h (items_of c)) ∙ count-insert_before x g h (items_of c) i

pub count_put_none : (x g h : ℕ) (c : LoopContent) → count g (items_of c) ≡ 0 → count x (items_of (put_before g h c)) ≡ count x (items_of c)
count_put_none x g h c n = ap (λ y. count x (items_of y)) (put_none g h c n)

pub count_put_other : (x g h : ℕ) (c : LoopContent) → x ≢ h → count x (items_of (put_before g h c)) ≡ count x (items_of c)
count_put_other x g h c a = elim (IsIn_or_not g (items_of c)) [ inl i ↦ omega (arith, count_put_there x g h c i, tick_other x h a) | inr n ↦ count_put_none x g h c n ]

-- what stands in a loop after h is put before g
pub put_keeps : (x g h : ℕ) (c : LoopContent) → IsIn x (items_of c) → IsIn x (items_of (put_before g h c))
put_keeps x g h c i = elim (IsIn_or_not g (items_of c)) [ inl a ↦ omega (arith, i, count_put_there x g h c a) | inr a ↦ omega (arith, i, count_put_none x g h c a) ]

pub put_came : (x g h : ℕ) (c : LoopContent) → IsIn x (items_of (put_before g h c)) → ((x ≡ h) × IsIn g (items_of c)) ⊎ IsIn x (items_of c)
put_came x g h c i = grind (arith, count_put_there, count_put_none)

pub light_put : (next : ℕ → ℕ) (g h : ℕ) (c : LoopContent) → count h (items_of c) ≡ 0 → IsLight next c → IsLight (led_over next g h) (put_before g h c)
light_put next g h c n l =
    let one = IsRing-led_over_other in
    grind (arith, one, IsIn_or_not, count_put_there, put_there, canonical_ring, IsRing-insert_before, put_none, eqb_tells, tick_same, tick_other)

pub loop_put : (next : ℕ → ℕ) (g h : ℕ) (c : LoopContent) → count h (items_of c) ≡ 0 → IsLoop next c → IsLoop (led_over next g h) (put_before g h c)
loop_put next g h (lone v) n l = subst (IsLoop (led_over next g h)) (sym (put_lone g h v)) tt
loop_put next g h (cycle hs) n l = elim (IsIn_or_not g hs) [
  | inl i ↦
      let a = light_put next g h (cycle hs) n (l.0.apart, l.1) in
      let d : IsApart (insert_before g h hs) = λ x. omega (arith, a.0 x, count_put_there x g h (cycle hs) i, count-insert_before x g h hs i) in
      subst (IsLoop (led_over next g h)) (sym (put_there g h (cycle hs) i)) (
        canonical_cycle (insert_before g h hs) d h (omega (arith, count-insert_before h g h hs i, tick_same h)),
        canonical_ring _ (insert_before g h hs) (IsRing-insert_before next g h hs l.0.apart i n l.1),
      )
  | inr z ↦ subst (IsLoop (led_over next g h)) (sym (put_none g h (cycle hs) z)) (l.0, IsRing-led_over_other next g h hs z n l.1)
]

-- ---- a half-edge taken out

pub count_out : (x h : ℕ) (hs : List ℕ) → x ≢ h → count x (without h hs) ≡ count x hs
count_out x h hs ne = grind (arith, count-without, without_none)

pub count_gone : (h : ℕ) (hs : List ℕ) → IsApart hs → count h (without h hs) ≡ 0
count_gone h hs d = grind (arith, count-without, without_none)

pub apart_out : (h : ℕ) (hs : List ℕ) → IsApart hs → IsApart (without h hs)
apart_out h hs d x = grind (arith, count-without, without_none)

pub ring_out : (next : ℕ → ℕ) (h : ℕ) (hs : List ℕ) → IsApart hs → IsRing next hs → IsRing (redirect next h (next h)) (without h hs)
ring_out next h hs d r = grind (arith, IsIn_or_not h hs, IsRing-without next h hs d, without_none h hs, IsRing-redirect_other next h (next h) hs)

-- ---- a sound model's loops

module _ (M : Model) (sound : Sound M) where
  light_of : (c : LoopContent) (l : ℕ) → Has M.loops l → content M l ≡ c → IsLight (after M) c
  unfolding after
  light_of (lone v) l there e = (λ x. omega arith, tt)
  light_of (cycle hs) l there e =
      let d : IsApart hs = (sound.cycles l hs there e).apart in
      (d, IsRing-from_successor (after M) hs d (λ x i. ap (λ q. successor (items_of (content M q)) x) (sound.one_loop x l (ap (holds x) e ∙ in-holds x (cycle hs) i)) ∙ ap (λ c. successor (items_of c) x) e))

  pub light : (l : ℕ) → IsLight (after M) (content M l)
  unfolding content
  light l = grind (arith, light_of (content M l) l)

  loop_of_content : (c : LoopContent) (l : ℕ) → Has M.loops l → content M l ≡ c → IsLoop (after M) c
  loop_of_content (lone v) l there e = tt
  loop_of_content (cycle hs) l there e = (sound.cycles l hs there e, (light_of (cycle hs) l there e).1)

  pub loop_sound : (l : ℕ) → Has M.loops l → IsLoop (after M) (content M l)
  loop_sound l there = loop_of_content (content M l) l there refl

  -- no loop holds a half-edge whose edge isn't there
  pub none_free : (x : ℕ) → table.get M.edges (edge_of x) ≡ None → (l : ℕ) → count x (items_of (content M l)) ≡ 0
  none_free x free l = grind (arith, sound.only_edges x l, in-holds x (content M l))

  -- a half-edge stands in no loop but its own
  pub none_else : (x q : ℕ) → q ≢ loop_of M x → count x (items_of (content M q)) ≡ 0
  none_else x q a = elim (IsIn_or_not x (items_of (content M q))) [ inl i ↦ absurd (a (sym (sound.one_loop x q (in-holds x (content M q) i)))) | inr n ↦ n ]

-- ---- the walks of a model

-- half-edges stand in loops, each in one, and next leads round each loop and, with mate, round each vertex
pub record Walks (N : Model) (next : ℕ → ℕ) : Type 0 where
  pub only : (x q : ℕ) → StandsIn N x q → HasHalf N x
  pub placed : (x : ℕ) → HasHalf N x → (q : ℕ) × StandsIn N x q × ((p : ℕ) → StandsIn N x p → p ≡ q)
  pub loops : (q : ℕ) → Has N.loops q → IsLoop next (content N q)
  pub fans : (x : ℕ) → HasHalf N x → Fan next N (tail N x)

-- the loop of a half-edge, where no other holds it
pub loop_at : (N : Model) (x q : ℕ) → StandsIn N x q → ((p : ℕ) → StandsIn N x p → p ≡ q) → loop_of N x ≡ q
unfolding loop_of
loop_at N x q s once = grind (arith, first_where_is, held_row, content_row)

module _ (N : Model) (next : ℕ → ℕ) (w : Walks N next) where
  pub loop_is : (x : ℕ) (t : HasHalf N x) → loop_of N x ≡ (w.placed x t).0
  loop_is x t = let p = w.placed x t in loop_at N x p.0 p.1 p.2

  pub stands-walks : (x : ℕ) → HasHalf N x → StandsIn N x (loop_of N x)
  stands-walks x t = subst (StandsIn N x) (sym (loop_is x t)) (w.placed x t).1

  pub one_loop-walks : (x q : ℕ) → StandsIn N x q → loop_of N x ≡ q
  one_loop-walks x q s = let t = w.only x q s in loop_is x t ∙ sym ((w.placed x t).2 q s)

  pub cycles-walks : (l : ℕ) (hs : List ℕ) → Has N.loops l → content N l ≡ cycle hs → IsCycle hs
  cycles-walks l hs t e = (subst (IsLoop next) e (w.loops l t)).0

  pub after-walks : (x : ℕ) → HasHalf N x → after N x ≡ next x
  unfolding after
  after-walks x t =
      grind (arith, stands-walks x t, next_is_successor next (cycle_of N x) x, held_row N x (loop_of N x), holds_in x (content N (loop_of N x)))

  pub ends_meet-walks : (x : ℕ) → HasHalf N x → tail N (after N x) ≡ tail N (mate x)
  ends_meet-walks x t =
      let f = w.fans (mate x) (mate_there N x t) in
      let i : IsIn (next (mate (mate x))) f.items = ring_stays (λ y. next (mate y)) f.items (mate x) f.ring (f.all (mate x) (mate_there N x t) refl) in
      ap (tail N) (after-walks x t ∙ ap next (sym (mate-mate x))) ∙ (f.of_it _ i).1

  same_reaches : (x y : ℕ) → HasHalf N x → Reaches (λ z. next (mate z)) x y → HasHalf N y × Reaches (round N) x y
  same_reaches x y t here = (t, here)
  same_reaches x y t (further {h = z} p) =
      let q = same_reaches x z t p in
      let m : HasHalf N (mate z) = mate_there N z q.0 in
      let e : round N z ≡ next (mate z) = after-walks (mate z) m in
      let f = w.fans z q.0 in
      ((f.of_it _ (ring_stays (λ y. next (mate y)) f.items z f.ring (f.all z q.0 refl))).0, subst (Reaches (round N) x) e (further q.1))

  pub one_fan-walks : (x y : ℕ) → HasHalf N x → HasHalf N y → tail N x ≡ tail N y → Reaches (round N) x y
  one_fan-walks x y xt yt e = let f = w.fans x xt in (same_reaches x y xt (ring_reaches (λ z. next (mate z)) f.items x y f.ring (f.all x xt refl) (f.all y yt (sym e)))).1
