-- The half-edges that leave a vertex, as a ring.
use Rattle.euler_laws.proofs.Prelude.{◌≡◌, ◌≢◌, ℕ, List, [], ◌∷◌, ◌++◌, is_some, refl, sym, ap, ◌∙◌, subst, arith, ◌⊎◌, inl, inr, eqb_tells, count, IsIn, IsApart, head_or, rest, successor, predecessor, IsPath, IsRing, mate, Model, items_of, tail, loop_of, content, cycle_of, after, round, Sound, Has, HasHalf, StandsIn, Reaches, here, further, face_at, count-append, tick_same, tick_other, split_at, IsIn_or_not, tick_le, apart_back, rotation_at, count_at, IsRing-same, IsIn_successor, IsIn_predecessor, successor-predecessor, IsPath-append, IsPath-left, ring_stays, mate-mate, in-holds, cycle_there, cycle_sound, row_of, mate_there}
use Rattle.euler_operators.specs.Items.{before, after as after_item}

pub reaches_trans : (next : ℕ → ℕ) (x y z : ℕ) → Reaches next x y → Reaches next y z → Reaches next x z
reaches_trans next x y z p here = p
reaches_trans next x y z p (further {h = w} q) = further (reaches_trans next x y w p q)

reaches_first : (next : ℕ → ℕ) (x z y : ℕ) → next x ≡ z → Reaches next z y → Reaches next x y
reaches_first next x z y e p = reaches_trans next x z y (subst (Reaches next x) e (further here)) p

path_reaches : (next : ℕ → ℕ) (x : ℕ) (xs : List ℕ) (d y : ℕ) → IsPath next (x ∷ xs) d → IsIn y (x ∷ xs) → Reaches next x y
path_reaches next x [] d y p i = let e : y ≡ x = grind (arith, eqb_tells y x, tick_other y x) in subst (Reaches next x) (sym e) here
path_reaches next x (z ∷ zs) d y p i = elim (eqb_tells y x) [
  | inl e ↦ subst (Reaches next x) (sym e.1) here
  | inr ne ↦ reaches_first next x z y p.0 (path_reaches next z zs d y p.1 (omega (arith, tick_other y x ne.1)))
]

-- of two items of a ring each is reached from the other
pub ring_reaches : (next : ℕ → ℕ) (ws : List ℕ) (x y : ℕ) → IsRing next ws → IsIn x ws → IsIn y ws → Reaches next x y
ring_reaches next ws x y r i j = path_reaches next x (rest x ws) x y (IsRing-same next ws (x ∷ rest x ws) (rotation_at x ws i) r) (omega (arith, count_at y x ws i))

-- what is reached from an item of a ring is one
pub reached_in : (next : ℕ → ℕ) (ws : List ℕ) (x y : ℕ) → IsRing next ws → IsIn x ws → Reaches next x y → IsIn y ws
reached_in next ws x y r i here = i
reached_in next ws x y r i (further {h = w} p) = ring_stays next ws w r (reached_in next ws x w r i p)

-- a way without repeats from g to w
record Way (next : ℕ → ℕ) (g w : ℕ) : Type 0 where
  front : List ℕ
  apart : IsApart (front ++ w ∷ [])
  path : IsPath next (front ++ w ∷ []) (next w)
  starts : head_or w front ≡ g

head_before : (x d : ℕ) (ps : List ℕ) → IsIn x ps → head_or x (before x ps) ≡ head_or d ps
head_before x d [] i = absurd (omega arith)
head_before x d (p ∷ ps) i = grind arith

head_push : (x d : ℕ) (w : ℕ) (ps : List ℕ) → head_or d (ps ++ w ∷ []) ≡ head_or w ps
head_push x d w [] = refl
head_push x d w (p ∷ ps) = refl

way_on : (next : ℕ → ℕ) (g w : ℕ) → Way next g w → Way next g (next w)
way_on next g w y =
    let x : ℕ = next w in
    let ps : List ℕ = y.front ++ w ∷ [] in
    elim (IsIn_or_not x ps) [
      | inl i ↦
          let s : ps ≡ before x ps ++ x ∷ after_item x ps = split_at x ps i in
          record {
            front = before x ps;
            apart = λ z. omega (arith, y.apart z, ap (count z) s, count-append z (before x ps) (x ∷ after_item x ps), count-append z (before x ps) (x ∷ []));
            path = IsPath-append next (before x ps) (x ∷ []) (next x) (IsPath-left next (before x ps) (x ∷ after_item x ps) x (subst (λ q. IsPath next q x) s y.path)) (refl, tt);
            starts = head_before x w ps i ∙ head_push x w w y.front ∙ y.starts;
          }
      | inr n ↦ grind (arith, apart_back x ps n y.apart, IsPath-append next ps (x ∷ []) (next x) y.path, head_push x x w y.front)
    ]

way_of : (next : ℕ → ℕ) (g w : ℕ) → Reaches next g w → Way next g w
way_of next g w here = record { front = []; apart = λ z. omega (arith, tick_le z g); path = (refl, tt); starts = refl }
way_of next g w (further {h = x} p) = way_on next g x (way_of next g x p)

-- the half-edges that start at v, each once, each followed by the next one round
pub record Fan (next : ℕ → ℕ) (M : Model) (v : ℕ) : Type 0 where
  pub items : List ℕ
  pub apart : IsApart items
  pub ring : IsRing (λ x. next (mate x)) items
  pub of_it : (x : ℕ) → IsIn x items → HasHalf M x × (tail M x ≡ v)
  pub all : (x : ℕ) → HasHalf M x → tail M x ≡ v → IsIn x items

-- what doesn't start at the vertex stands not in its fan
pub not_in_fan : (next : ℕ → ℕ) (M : Model) (t : ℕ) (g : Fan next M t) (x : ℕ) → (HasHalf M x → tail M x ≢ t) → count x g.items ≡ 0
not_in_fan next M t g x a = elim (IsIn_or_not x g.items) [ inl i ↦ absurd (a (g.of_it x i).0 (g.of_it x i).1) | inr n ↦ n ]

pub none_in_fan : (M : Model) {v : ℕ} (fan : Fan (after M) M v) (x : ℕ) → tail M x ≢ v → count x fan.items ≡ 0
none_in_fan M {v = v} fan x a = not_in_fan (after M) M v fan x (λ t. a)

module _ (M : Model) (sound : Sound M) where
  pub half_face : (z : ℕ) → HasHalf M z → Has M.faces (face_at M z)
  half_face z there = sound.loops_of_faces (loop_of M z) (ap is_some (row_of M sound z there))

  pub half_after : (z : ℕ) → HasHalf M z → HasHalf M (after M z)
  unfolding after
  half_after z there = sound.only_edges (successor (cycle_of M z) z) (loop_of M z) (in-holds _ (content M (loop_of M z)) (IsIn_successor z (cycle_of M z) (cycle_there M sound z there)))

  pub loop_after : (z : ℕ) → HasHalf M z → loop_of M (after M z) ≡ loop_of M z
  unfolding after
  loop_after z there = sound.one_loop (successor (cycle_of M z) z) (loop_of M z) (in-holds _ (content M (loop_of M z)) (IsIn_successor z (cycle_of M z) (cycle_there M sound z there)))

  -- what is reached round a vertex starts there
  pub reach_half : (x y : ℕ) → HasHalf M x → Reaches (round M) x y → HasHalf M y × (tail M y ≡ tail M x)
  reach_half x y there here = (there, refl)
  reach_half x y there (further {h = w} p) =
      grind (arith, reach_half x w there p, half_after (mate w), mate_there M w, sound.ends_meet (mate w), mate-mate w)

  -- the half-edge from which one comes to g
  pub back_of : (g : ℕ) → HasHalf M g → (b : ℕ) × HasHalf M b × (after M b ≡ g)
  unfolding after
  back_of g there =
      let xs : List ℕ = cycle_of M g in
      let i : IsIn g xs = cycle_there M sound g there in
      let b : ℕ = predecessor xs g in
      let s : StandsIn M b (loop_of M g) = in-holds b (content M (loop_of M g)) (IsIn_predecessor g xs i) in
      (b, sound.only_edges b (loop_of M g) s, ap (λ q. successor (items_of (content M q)) b) (sound.one_loop b (loop_of M g) s) ∙ successor-predecessor g xs (cycle_sound M sound g there).apart i)

  pub fan_of : (g : ℕ) → HasHalf M g → Fan (after M) M (tail M g)
  fan_of g there =
      let b = back_of g there in
      let p : ℕ = mate b.0 in
      let pt : HasHalf M p = mate_there M b.0 b.1 in
      let back : round M p ≡ g = ap (after M) (mate-mate b.0) ∙ b.2 in
      let e : tail M g ≡ tail M p = sym (ap (tail M) b.2) ∙ sound.ends_meet b.0 b.1 in
      let w : Way (round M) g p = way_of (round M) g p (sound.one_fan g p there pt e) in
      let ws : List ℕ = w.front ++ p ∷ [] in
      let r : IsRing (round M) ws = subst (IsPath (round M) ws) (back ∙ sym w.starts ∙ sym (head_push 0 0 p w.front)) w.path in
      let ip : IsIn p ws = omega (arith, count-append p w.front (p ∷ []), tick_same p) in
      let ig : IsIn g ws = subst (λ q. IsIn q ws) back (ring_stays (round M) ws p r ip) in
      record {
        items = ws;
        apart = w.apart;
        ring = r;
        of_it = λ x i. reach_half g x there (ring_reaches (round M) ws g x r ig i);
        all = λ x xt xe. reached_in (round M) ws g x r ig (sound.one_fan g x there xt (sym xe));
      }

  -- all half-edges at a vertex lie in one solid, whatever a value is that after and mate keep
  pub kept_round : (f : ℕ → ℕ) → ((x : ℕ) → HasHalf M x → f (after M x) ≡ f x) → ((x : ℕ) → HasHalf M x → f (mate x) ≡ f x) → (x y : ℕ) → HasHalf M x → Reaches (round M) x y → f y ≡ f x
  kept_round f a b x y there here = refl
  kept_round f a b x y there (further {h = w} p) =
      let q = reach_half x w there p in
      a (mate w) (mate_there M w q.0) ∙ b w q.0 ∙ kept_round f a b x w there p

pub fixed_reaches : (next : ℕ → ℕ) (x y : ℕ) → next x ≡ x → Reaches next x y → y ≡ x
fixed_reaches next x y e here = refl
fixed_reaches next x y e (further {h = w} p) = ap next (fixed_reaches next x w e p) ∙ e

pub two_reaches : (next : ℕ → ℕ) (a b y : ℕ) → next a ≡ b → next b ≡ a → Reaches next a y → (y ≡ a) ⊎ (y ≡ b)
two_reaches next a b y e f here = inl refl
two_reaches next a b y e f (further {h = w} p) = elim (two_reaches next a b w e f p) [ inl q ↦ inr (ap next q ∙ e) | inr q ↦ inl (ap next q ∙ f) ]
