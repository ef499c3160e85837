-- Edges cut one after the other.
use Rattle.split_drawing_laws.proofs.Prelude.{◌≡◌, ◌≢◌, ℕ, ◌+◌, ◌≤◌, ◌<◌, true, false, pos, List, [], ◌∷◌, length, is_some, unwrap_or, refl, sym, ap, ◌∙◌, subst, arith, ◌⊎◌, inl, inr, eqb_tells, Point, Plane, IsInRange, height, cut_between, count, tick, IsIn, mate, edge_of, plus, minus, Model, tail, loop_of, point_of, no_point, Sound, Has, HasHalf, tick_same, tick_other, plus_row, minus_row, edge_of-mate, mate_plus, plus_there, minus_there, plus_edge, level_first, level_second, AreAccepted, effects, none_above, number_fits, AreLeft, Needed, start, finish, taken_in, Growing, crosses, next_cut, all_cut, Kept}
use Rattle.euler_operators.specs.Table as table
use Rattle.split_drawing_laws.specs.crossings.CrossingOps.{ops_from}
use Rattle.split_drawing_laws.proofs.crossings.Steps.{CutGoes, cut_accepted, cut_sound, cut_keeps, edge_other, point_new, tail_old, tail_new, tail_other, taken_then}
use Rattle.split_drawing_laws.proofs.crossings.OneCut.{edge_cut}

-- where edge e meets the plane
abbrev pub cut_at : Model → Plane → ℕ → Point
cut_at M p e = cut_between p (start M (plus e)) (finish M (plus e))

-- an edge that crosses the plane and can be cut there
pub record Crossing (M : Model) (p : Plane) (e : ℕ) : Type 0 where
  pub there : Has M.edges e
  pub apart : loop_of M (plus e) ≢ loop_of M (minus e)
  pub crossing : crosses M p (plus e) ≡ true
  pub level : height p (cut_at M p e) ≡ pos 0
  pub fits : IsInRange (cut_at M p e)

-- N is M with some edges cut: no other half-edges start elsewhere, and no other edges cross the plane
pub record AreCut (M N : Model) (p : Plane) (ds : List ℕ) : Type 0 where
  pub sound : Sound N
  pub kept : Kept M N
  pub minus_tails : (x : ℕ) → Has M.edges x → tail N (minus x) ≡ tail M (minus x)
  pub plus_tails : (x : ℕ) → Has M.edges x → count x ds ≡ 0 → tail N (plus x) ≡ tail M (plus x)
  pub cut_starts : (x : ℕ) → Has M.edges x → IsIn x ds → start N (plus x) ≡ cut_at M p x
  pub cleared : (x : ℕ) → Has N.edges x → (Has M.edges x × (count x ds ≡ 0)) ⊎ (crosses N p (plus x) ≡ false)

pub kept_edge : (M N : Model) → Kept M N → (x : ℕ) → Has M.edges x → Has N.edges x
kept_edge M N k x there = plus_edge N x (k.halves (plus x) (plus_there M x there))

pub kept_point : (M N : Model) → Kept M N → (v : ℕ) → Has M.vertices v → point_of N v ≡ point_of M v
unfolding point_of
kept_point M N k v there = ap (λ o. unwrap_or o no_point) (k.points v there)

-- a half-edge whose tail stays starts at the same point
pub kept_start : (M N : Model) → Sound M → Kept M N → (h : ℕ) → HasHalf M h → tail N h ≡ tail M h → start N h ≡ start M h
kept_start M N sound k h there e = ap (point_of N) e ∙ kept_point M N k (tail M h) (sound.tails_there h there)

kept_on : (M N K : Model) → Kept M N → Kept N K → Kept M K
kept_on M N K a b = grind arith

-- an edge that isn't cut yet is where it was
module _ (M N : Model) (p : Plane) (ds : List ℕ) (sound : Sound M) (a : AreCut M N p ds) (e : ℕ) (c : Crossing M p e) (uncut : count e ds ≡ 0) where
  pub same_start : start N (plus e) ≡ start M (plus e)
  same_start = kept_start M N sound a.kept (plus e) (plus_there M e c.there) (a.plus_tails e c.there uncut)

  pub same_finish : finish N (plus e) ≡ finish M (plus e)
  same_finish = ap (start N) (mate_plus e) ∙ kept_start M N sound a.kept (minus e) (minus_there M e c.there) (a.minus_tails e c.there) ∙ sym (ap (start M) (mate_plus e))

  pub same_cut : cut_at N p e ≡ cut_at M p e
  same_cut = λ i. cut_between p (same_start i) (same_finish i)

-- one edge more
module _ (M N : Model) (p : Plane) (ds : List ℕ) (sound : Sound M) (a : AreCut M N p ds) (e k v : ℕ) (c : Crossing M p e) (uncut : count e ds ≡ 0) (goes : CutGoes N e k v (cut_at N p e)) where
  abbrev K : Model
  K = edge_cut N e k v (cut_at N p e)

  keeps : Kept N K
  keeps = cut_keeps N e k v (cut_at N p e) goes

  start_other : (h : ℕ) → HasHalf N h → edge_of h ≢ e → start K h ≡ start N h
  start_other h there ne = kept_start N K a.sound keeps h there (tail_other N e k v (cut_at N p e) goes h there ne)

  new_start : (h : ℕ) → tail K h ≡ v → start K h ≡ cut_at M p e
  new_start h is = ap (point_of K) is ∙ point_new N e k v (cut_at N p e) goes ∙ same_cut M N p ds sound a e c uncut

  new_level : (h : ℕ) → tail K h ≡ v → height p (start K h) ≡ pos 0
  new_level h is = ap (height p) (new_start h is) ∙ c.level

  clear_now : (x : ℕ) → Has K.edges x → (Has M.edges x × (count x (e ∷ ds) ≡ 0)) ⊎ (crosses K p (plus x) ≡ false)
  clear_now x there = elim (eqb_tells x e) [
    | inl s ↦ inr (level_first (height p (start K (plus x))) (height p (finish K (plus x))) (new_level (plus x) (ap (λ y. tail K (plus y)) s.1 ∙ (tail_old N e k v (cut_at N p e) goes).0)))
    | inr s ↦ elim (eqb_tells x k) [
      | inl t ↦ inr (level_second (height p (start K (plus x))) (height p (finish K (plus x))) (new_level (mate (plus x)) (ap (tail K) (mate_plus x) ∙ ap (λ y. tail K (minus y)) t.1 ∙ (tail_new N e k v (cut_at N p e) goes).1)))
      | inr t ↦ old (sym (ap is_some (edge_other N e k v (cut_at N p e) goes x s.1 t.1)) ∙ there) s.1
    ]
  ] where
    old : {x : ℕ} → Has N.edges x → x ≢ e → (Has M.edges x × (count x (e ∷ ds) ≡ 0)) ⊎ (crosses K p (plus x) ≡ false)
    old {x} there ne = elim (a.cleared x there) [
      | inl b ↦ inl (b.0, omega (arith, b.1, tick_other x e ne))
      | inr b ↦ grind (arith, start_other, plus_there, plus_row, edge_of-mate)
    ]

  pub cut_more : AreCut M K p (e ∷ ds)
  cut_more = record {
    sound = cut_sound N e k v (cut_at N p e) goes;
    kept = kept_on M N K a.kept keeps;
    minus_tails = λ x there. elim (eqb_tells x e) [
      | inl s ↦ ap (λ y. tail K (minus y)) s.1 ∙ (tail_old N e k v (cut_at N p e) goes).1 ∙ ap (λ y. tail N (minus y)) (sym s.1) ∙ a.minus_tails x there
      | inr s ↦ tail_other N e k v (cut_at N p e) goes (minus x) (minus_there N x (kept_edge M N a.kept x there)) (λ t. s.1 (sym (minus_row x).0 ∙ t)) ∙ a.minus_tails x there
    ];
    plus_tails = λ x there none. elim (eqb_tells x e) [
      | inl s ↦ absurd (let one : tick x e ≡ 1 = ap (λ y. tick y e) s.1 ∙ tick_same e in omega (arith, none, one))
      | inr s ↦ tail_other N e k v (cut_at N p e) goes (plus x) (plus_there N x (kept_edge M N a.kept x there)) (λ t. s.1 (sym (plus_row x).0 ∙ t)) ∙ a.plus_tails x there (omega (arith, none))
    ];
    cut_starts = λ x there i. elim (eqb_tells x e) [
      | inl s ↦ new_start (plus x) (ap (λ y. tail K (plus y)) s.1 ∙ (tail_old N e k v (cut_at N p e) goes).0) ∙ ap (cut_at M p) (sym s.1)
      | inr s ↦ start_other (plus x) (plus_there N x (kept_edge M N a.kept x there)) (λ t. s.1 (sym (plus_row x).0 ∙ t)) ∙ a.cut_starts x there (omega (arith, i, tick_other x e s.1))
    ];
    cleared = clear_now;
  }

-- ---- all of a list

-- an edge and a vertex for each of n edges that are cut
abbrev pub needed_for_cuts : ℕ → Needed
needed_for_cuts n = record { faces = 0; loops = 0; edges = n; vertices = n }

-- the model of g is M with the edges of ds cut, and those of rs are still to be cut
pub record Going (M : Model) (p : Plane) (g : Growing) (ds rs : List ℕ) : Type 0 where
  pub cut : AreCut M g.model p ds
  pub counted : g.taken ≡ taken_in g.model
  pub crossing : (x : ℕ) → IsIn x rs → Crossing M p x
  pub apart : (x : ℕ) → count x ds + count x rs ≤ 1
  pub left : AreLeft g.taken (needed_for_cuts (length rs))

-- its operators are accepted in turn, all its edges are cut then, and the counters are right
pub record Gone (M : Model) (p : Plane) (g : Growing) (ds rs : List ℕ) : Type 0 where
  pub accepted : AreAccepted g.model (ops_from p g rs)
  pub counted : (all_cut p g rs).taken ≡ taken_in (all_cut p g rs).model
  pub list : List ℕ
  pub cut : AreCut M (all_cut p g rs).model p list
  pub same : (x : ℕ) → count x list ≡ count x ds + count x rs

pub next_taken : (p : Plane) (g : Growing) (e : ℕ) → (next_cut p g e).taken ≡ record g.taken { edge = g.taken.edge + 1; vertex = g.taken.vertex + 1 }
unfolding next_cut
next_taken p g e = refl

module _ (M : Model) (p : Plane) (sound : Sound M) (g : Growing) (ds : List ℕ) (e : ℕ) (rs : List ℕ) (w : Going M p g ds (e ∷ rs)) where
  pub crossing_now : Crossing M p e
  crossing_now = w.crossing e (omega (arith, tick_same e))

  edge_above : table.greatest g.model.edges < g.taken.edge + 1
  unfolding taken_in
  edge_above = omega (arith, ap (λ c. c.edge) w.counted)

  vertex_above : table.greatest g.model.vertices < g.taken.vertex + 1
  unfolding taken_in
  vertex_above = omega (arith, ap (λ c. c.vertex) w.counted)

  pub uncut_now : count e ds ≡ 0
  uncut_now = omega (arith, w.apart e, tick_same e)

  loops_apart : loop_of g.model (plus e) ≢ loop_of g.model (minus e)
  loops_apart s = crossing_now.apart (sym (w.cut.kept.loop (plus e) (plus_there M e crossing_now.there)) ∙ s ∙ w.cut.kept.loop (minus e) (minus_there M e crossing_now.there))

  pub goes_now : CutGoes g.model e (g.taken.edge + 1) (g.taken.vertex + 1) (cut_at g.model p e)
  goes_now = record {
    can = record { sound = w.cut.sound; there = kept_edge M g.model w.cut.kept e crossing_now.there; apart = loops_apart; edge_free = none_above g.model.edges (g.taken.edge + 1) edge_above };
    vertex_free = none_above g.model.vertices (g.taken.vertex + 1) vertex_above;
    edge_fits = number_fits (g.taken.edge + 1) (omega arith) (omega (arith, w.left.edges));
    vertex_fits = number_fits (g.taken.vertex + 1) (omega arith) (omega (arith, w.left.vertices));
    point_fits = subst IsInRange (sym (same_cut M g.model p ds sound w.cut e crossing_now uncut_now)) crossing_now.fits;
  }

  pub next_model : (next_cut p g e).model ≡ edge_cut g.model e (g.taken.edge + 1) (g.taken.vertex + 1) (cut_at g.model p e)
  unfolding next_cut
  next_model = refl

  pub going_on : Going M p (next_cut p g e) (e ∷ ds) rs
  going_on = record {
    cut = subst (λ X. AreCut M X p (e ∷ ds)) (sym next_model) (cut_more M g.model p ds sound w.cut e (g.taken.edge + 1) (g.taken.vertex + 1) crossing_now uncut_now goes_now);
    counted = next_taken p g e ∙ (λ i. record (w.counted i) { edge = g.taken.edge + 1; vertex = g.taken.vertex + 1 })
        ∙ sym (taken_then g.model e (g.taken.edge + 1) (g.taken.vertex + 1) (cut_at g.model p e) goes_now.can edge_above vertex_above)
        ∙ ap taken_in (sym next_model);
    crossing = λ x i. w.crossing x (omega (arith, i));
    apart = λ x. omega (arith, w.apart x);
    left = subst (λ c. AreLeft c (needed_for_cuts (length rs))) (sym (next_taken p g e))
        (record { faces = w.left.faces; loops = w.left.loops; edges = omega (arith, w.left.edges); vertices = omega (arith, w.left.vertices) });
  }

pub all_gone : (M : Model) (p : Plane) → Sound M → (g : Growing) (ds rs : List ℕ) → Going M p g ds rs → Gone M p g ds rs
all_gone M p sound g ds [] w = record { accepted = tt; counted = w.counted; list = ds; cut = w.cut; same = λ x. omega arith }
all_gone M p sound g ds (e ∷ rs) w =
    let r : Gone M p (next_cut p g e) (e ∷ ds) rs = all_gone M p sound (next_cut p g e) (e ∷ ds) rs (going_on M p sound g ds e rs w) in
    record {
      accepted = (
        cut_accepted g.model e (g.taken.edge + 1) (g.taken.vertex + 1) (cut_at g.model p e) (goes_now M p sound g ds e rs w),
        subst (λ X. AreAccepted X (ops_from p (next_cut p g e) rs)) (next_model M p sound g ds e rs w) r.accepted,
      );
      counted = r.counted;
      list = r.list;
      cut = r.cut;
      same = λ x. omega (arith, r.same x);
    }

-- what they make
pub all_made : (p : Plane) (g : Growing) (es : List ℕ) → effects g.model (ops_from p g es) ≡ (all_cut p g es).model
unfolding next_cut
all_made p g [] = refl
all_made p g (e ∷ es) = all_made p (next_cut p g e) es

-- none is cut
pub none_cut : (M : Model) (p : Plane) → Sound M → AreCut M M p []
none_cut M p sound = grind arith
