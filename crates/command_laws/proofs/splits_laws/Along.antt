-- Once the edges that cross a plane are cut, each half-edge leads along one that was there, between pieces of the faces that met there.
use Rattle.command_laws.proofs.Prelude.{◌≡◌, ◌≢◌, ◌⊎◌, ℕ, ◌+◌, ℤ, pos, ◌+ℤ◌, ◌-ℤ◌, ◌*ℤ◌, unsigned_abs, true, List, [], ◌∷◌, flat_map, is_some, sym, ap, subst, ◌∙◌, arith, inl, inr, eqb_tells, nat_tests, ints, Plane, Point, edge_of, height, holds, opposite, IsIn, mate, plus, minus, Model, LoopContent, content, items_of, face_at, face_of, loop_of, point_of, tail, Sound, Has, HasHalf, count-append, count-canonical, cycle_there, dif-parts, difs, edge_of-mate, in-holds, IsIn_head, IsIn_or_not, IsIn_rest, mate-mate, mate_plus, minus_row, minus_there, plus_row, plus_there, same_dif, same_vector, tick_other, tick_same, content-new, halves_of_edge, Growing, growing, all_cut, crossing_edges, finish, next_cut, rewritten, scaled, start, towards, with_crossings, Kept, CanBegin, doubled, edge_cut, edge_facts, AreCut, Going, cut_at, crossing_now, goes_now, going_on, kept_point, kept_start, next_model, same_cut, same_start, uncut_now, LeadsAlong}
use Rattle.euler_operators.specs.Table as table
use Rattle.solid_measure_laws.proofs.Cuts.{cut_divides}
use Rattle.split_drawing_laws.proofs.crossings.Steps.{CutGoes, cut_keeps, cut_sound, edge_other, point_new, rewrites, tail_new, tail_other}
use Rattle.split_drawing_laws.proofs.crossings.Whole as cuts

-- ---- half-edges that lead along others

-- half-edge h of N leads along one of M, between the same two faces
pub record ComesOf (M N : Model) (h : ℕ) : Type 0 where
  pub half : ℕ
  pub there : HasHalf M half
  pub along : LeadsAlong M N half h
  pub face : face_at N h ≡ face_at M half
  pub beyond : face_at N (mate h) ≡ face_at M (mate half)

pub parted : (k a b : ℤ) → k *ℤ (a -ℤ b) ≡ k *ℤ a -ℤ k *ℤ b
parted k a b = rw (dif-parts k, dif-parts a, dif-parts b) (simp difs (same_dif _ _ _ _ (omega arith)))

pub both : (a b x : ℤ) → (a +ℤ b) *ℤ x ≡ a *ℤ x +ℤ b *ℤ x
both a b x = rw (dif-parts a, dif-parts b, dif-parts x) (simp difs (same_dif _ _ _ _ (omega arith)))

summed : (l m n : ℕ) (x : ℤ) → pos (l + m + n) *ℤ x ≡ pos l *ℤ x +ℤ pos m *ℤ x +ℤ pos n *ℤ x
summed l m n x = both (pos (l + m)) (pos n) x ∙ ap (λ y. y +ℤ pos n *ℤ x) (both (pos l) (pos m) x)

-- over the same step, seen from its other end
turned_sum : (wa wb ws wf la lb ma mb na nb : ℤ) → wa ≡ la +ℤ ma +ℤ na → wb ≡ lb +ℤ mb +ℤ nb → ws -ℤ wa ≡ lb -ℤ la → wf -ℤ ws ≡ mb -ℤ ma → wf -ℤ wb ≡ na -ℤ nb
turned_sum wa wb ws wf la lb ma mb na nb e f g h = omega (arith, ints, e, f, g, h)

turned_start : (l m n : ℕ) (a b s f : ℤ) → pos (l + m + n) *ℤ (s -ℤ a) ≡ pos l *ℤ (b -ℤ a) → pos (l + m + n) *ℤ (f -ℤ s) ≡ pos m *ℤ (b -ℤ a) → pos (l + m + n) *ℤ (f -ℤ b) ≡ pos n *ℤ (a -ℤ b)
turned_start l m n a b s f e g =
    let w = pos (l + m + n) in
    parted w f b
    ∙ turned_sum (w *ℤ a) (w *ℤ b) (w *ℤ s) (w *ℤ f) (pos l *ℤ a) (pos l *ℤ b) (pos m *ℤ a) (pos m *ℤ b) (pos n *ℤ a) (pos n *ℤ b) (summed l m n a) (summed l m n b)
    (sym (parted w s a) ∙ e ∙ parted (pos l) b a) (sym (parted w f s) ∙ g ∙ parted (pos m) b a)
    ∙ sym (parted (pos n) a b)

turned_sign : (x y z u : ℤ) → x -ℤ y ≡ z -ℤ u → y -ℤ x ≡ u -ℤ z
turned_sign x y z u e = omega (arith, ints, e)

turned_way : (w m a b s f : ℤ) → w *ℤ (f -ℤ s) ≡ m *ℤ (b -ℤ a) → w *ℤ (s -ℤ f) ≡ m *ℤ (a -ℤ b)
turned_way w m a b s f e = parted w s f ∙ turned_sign (w *ℤ f) (w *ℤ s) (m *ℤ b) (m *ℤ a) (sym (parted w f s) ∙ e ∙ parted m b a) ∙ sym (parted m a b)

other_order : (l m n : ℕ) → n + m + l ≡ l + m + n
other_order l m n = omega arith

module _ (M N : Model) where
  turned_along : (g h : ℕ) → LeadsAlong M N g h → LeadsAlong M N (mate g) (mate h)
  turned_along g h w =
      let a = start M g in let b = finish M g in let s = start N h in let f = finish N h in
      let k = pos (w.from + w.part + w.rest) in
      record {
        from = w.rest;
        part = w.part;
        rest = w.from;
        some = w.some;
        starts = (λ i. scaled (pos (other_order w.from w.part w.rest i)) (towards b f))
            ∙ same_vector _ _
            (turned_start w.from w.part w.rest a.x b.x s.x f.x (ap (λ v. v.x) w.starts) (ap (λ v. v.x) w.leads))
            (turned_start w.from w.part w.rest a.y b.y s.y f.y (ap (λ v. v.y) w.starts) (ap (λ v. v.y) w.leads))
            (turned_start w.from w.part w.rest a.z b.z s.z f.z (ap (λ v. v.z) w.starts) (ap (λ v. v.z) w.leads))
            ∙ ap (λ q. scaled (pos w.rest) (towards b q)) (sym (ap (start M) (mate-mate g)));
        leads = (λ i. scaled (pos (other_order w.from w.part w.rest i)) (towards f (ap (start N) (mate-mate h) i)))
            ∙ same_vector _ _
            (turned_way k (pos w.part) a.x b.x s.x f.x (ap (λ v. v.x) w.leads))
            (turned_way k (pos w.part) a.y b.y s.y f.y (ap (λ v. v.y) w.leads))
            (turned_way k (pos w.part) a.z b.z s.z f.z (ap (λ v. v.z) w.leads))
            ∙ ap (λ q. scaled (pos w.part) (towards b q)) (sym (ap (start M) (mate-mate g)));
      }

  turned_of : (h : ℕ) → ComesOf M N h → ComesOf M N (mate h)
  turned_of h w = record {
    half = mate w.half;
    there = ap (table.has M.edges) (edge_of-mate w.half) ∙ w.there;
    along = turned_along w.half h w.along;
    face = w.beyond;
    beyond = ap (face_at N) (mate-mate h) ∙ w.face ∙ ap (face_at M) (sym (mate-mate w.half));
  }

-- ---- the two parts of an edge that is cut, and an edge that isn't

nowhere : (n : ℕ) (x y : ℤ) → pos n *ℤ (x -ℤ x) ≡ pos 0 *ℤ y
nowhere n x y = parted (pos n) x x ∙ none (pos n *ℤ x) y where
  none : (z y : ℤ) → z -ℤ z ≡ pos 0 *ℤ y
  none z y = omega (arith, ints)

all_way : (l m : ℕ) (a b c : ℤ) → pos (l + m + 0) *ℤ (c -ℤ a) ≡ pos l *ℤ (b -ℤ a) → pos (l + m + 0) *ℤ (b -ℤ c) ≡ pos m *ℤ (b -ℤ a)
all_way l m a b c e =
    let w = pos (l + m + 0) in
    parted w b c
    ∙ left (w *ℤ a) (w *ℤ b) (w *ℤ c) (pos l *ℤ a) (pos l *ℤ b) (pos m *ℤ a) (pos m *ℤ b) (pos 0 *ℤ a) (pos 0 *ℤ b) (summed l m 0 a) (summed l m 0 b) (none a) (none b) (sym (parted w c a) ∙ e ∙ parted (pos l) b a)
    ∙ sym (parted (pos m) b a) where
      none : (x : ℤ) → pos 0 *ℤ x ≡ pos 0
      none x = omega (arith, ints)

      left : (wa wb wc la lb ma mb na nb : ℤ) → wa ≡ la +ℤ ma +ℤ na → wb ≡ lb +ℤ mb +ℤ nb → na ≡ pos 0 → nb ≡ pos 0 → wc -ℤ wa ≡ lb -ℤ la → wb -ℤ wc ≡ mb -ℤ ma
      left wa wb wc la lb ma mb na nb e f g h d = omega (arith, ints, e, f, g, h, d)

module _ (M N : Model) (g h : ℕ) where
  abbrev a : Point
  a = start M g

  abbrev b : Point
  b = finish M g

  uncut_along : start N h ≡ start M g → finish N h ≡ finish M g → LeadsAlong M N g h
  uncut_along s f = record {
    from = 0;
    part = 1;
    rest = 0;
    some = λ e. omega (arith, e);
    starts = ap (λ q. scaled (pos 1) (towards a q)) s ∙ same_vector _ _ (nowhere 1 a.x (b.x -ℤ a.x)) (nowhere 1 a.y (b.y -ℤ a.y)) (nowhere 1 a.z (b.z -ℤ a.z));
    leads = λ i. scaled (pos 1) (towards (s i) (f i));
  }

  first_along : (m n : ℕ) (c : Point) → m ≢ 0 → scaled (pos (m + n)) (towards a c) ≡ scaled (pos m) (towards a b) → start N h ≡ start M g → finish N h ≡ c → LeadsAlong M N g h
  first_along m n c some divides s f = record {
    from = 0;
    part = m;
    rest = n;
    some = some;
    starts = ap (λ q. scaled (pos (0 + m + n)) (towards a q)) s ∙ same_vector _ _ (nowhere (0 + m + n) a.x (b.x -ℤ a.x)) (nowhere (0 + m + n) a.y (b.y -ℤ a.y)) (nowhere (0 + m + n) a.z (b.z -ℤ a.z));
    leads = (λ i. scaled (pos (none_first m n i)) (towards (s i) (f i))) ∙ divides;
  } where
    none_first : (m n : ℕ) → 0 + m + n ≡ m + n
    none_first m n = omega arith

  rest_along : (m n : ℕ) (c : Point) → n ≢ 0 → scaled (pos (m + n)) (towards a c) ≡ scaled (pos m) (towards a b) → start N h ≡ c → finish N h ≡ finish M g → LeadsAlong M N g h
  rest_along m n c some divides s f =
      let d : scaled (pos (m + n + 0)) (towards a c) ≡ scaled (pos m) (towards a b) = (λ i. scaled (pos (none_last m n i)) (towards a c)) ∙ divides in
      record {
        from = m;
        part = n;
        rest = 0;
        some = some;
        starts = ap (λ q. scaled (pos (m + n + 0)) (towards a q)) s ∙ d;
        leads = (λ i. scaled (pos (m + n + 0)) (towards (s i) (f i)))
            ∙ same_vector _ _ (all_way m n a.x b.x c.x (ap (λ v. v.x) d)) (all_way m n a.y b.y c.y (ap (λ v. v.y) d)) (all_way m n a.z b.z c.z (ap (λ v. v.z) d));
      } where
        none_last : (m n : ℕ) → m + n + 0 ≡ m + n
        none_last m n = omega arith

-- ---- the edges that cutting makes

module _ (e k : ℕ) where
  plus_in : (hs : List ℕ) → IsIn (plus e) hs → IsIn (plus k) (flat_map (doubled e k) hs)
  plus_in [] i = absurd (omega (arith, i))
  plus_in (h ∷ hs) i = elim (eqb_tells (plus e) h) [
    | inl s ↦ let one : IsIn (plus k) (doubled e k h) = grind (arith, nat_tests, tick_same) in omega (arith, one, count-append (plus k) (doubled e k h) (flat_map (doubled e k) hs))
    | inr s ↦ let later : IsIn (plus k) (flat_map (doubled e k) hs) = plus_in hs (omega (arith, i, tick_other (plus e) h s.1)) in
        omega (arith, later, count-append (plus k) (doubled e k h) (flat_map (doubled e k) hs))
  ]

  minus_in : (hs : List ℕ) → IsIn (minus e) hs → IsIn (minus k) (flat_map (doubled e k) hs)
  minus_in [] i = absurd (omega (arith, i))
  minus_in (h ∷ hs) i = elim (eqb_tells (minus e) h) [
    | inl s ↦ let one : IsIn (minus k) (doubled e k h) = grind (arith, nat_tests, tick_same, tick_other) in omega (arith, one, count-append (minus k) (doubled e k h) (flat_map (doubled e k) hs))
    | inr s ↦ let later : IsIn (minus k) (flat_map (doubled e k) hs) = minus_in hs (omega (arith, i, tick_other (minus e) h s.1)) in
        omega (arith, later, count-append (minus k) (doubled e k h) (flat_map (doubled e k) hs))
  ]

  plus_held : (c : LoopContent) → IsIn (plus e) (items_of c) → holds (plus k) (rewritten (flat_map (doubled e k)) c) ≡ true
  plus_held c i = grind (arith, in-holds, plus_in, count-canonical)

  minus_held : (c : LoopContent) → IsIn (minus e) (items_of c) → holds (minus k) (rewritten (flat_map (doubled e k)) c) ≡ true
  minus_held c i = grind (arith, in-holds, minus_in, count-canonical)

module _ (M : Model) (p : Plane) (sound : Sound M) (all : List ℕ) where
  -- edge x of N is the first part of one that was cut
  record IsFirstPart (N : Model) (x : ℕ) : Type 0 where
    of : ℕ
    cut : IsIn of all
    starts : start N (plus x) ≡ start M (plus of)
    ends : start N (minus x) ≡ cut_at M p of
    face : face_at N (plus x) ≡ face_at M (plus of)
    beyond : face_at N (minus x) ≡ face_at M (minus of)

  abbrev IsKnown : Model → ℕ → Type 0
  IsKnown N x = Has M.edges x ⊎ IsFirstPart N x

  -- a half-edge that is there before keeps its face
  face_kept : (N : Model) → Kept M N → (h : ℕ) → HasHalf M h → face_at N h ≡ face_at M h
  face_kept N kept h there = ap (face_of N) (kept.loop h there) ∙ kept.face (loop_of M h)

  module _ (g : Growing) (ds : List ℕ) (e : ℕ) (es : List ℕ) (w : Going M p g ds (e ∷ es)) (within : IsIn e all) (known : (x : ℕ) → Has g.model.edges x → IsKnown g.model x) where
    abbrev G : Model
    G = g.model

    abbrev k : ℕ
    k = g.taken.edge + 1

    abbrev v : ℕ
    v = g.taken.vertex + 1

    abbrev E : Model
    E = edge_cut G e k v (cut_at G p e)

    goes : CutGoes G e k v (cut_at G p e)
    goes = goes_now M p sound g ds e es w

    kept : Kept G E
    kept = cut_keeps G e k v (cut_at G p e) goes

    E_sound : Sound E
    E_sound = cut_sound G e k v (cut_at G p e) goes

    old : Has M.edges e
    old = (crossing_now M p sound g ds e es w).there

    plus_here : HasHalf G (plus e)
    plus_here = plus_there G e goes.can.there

    minus_here : HasHalf G (minus e)
    minus_here = minus_there G e goes.can.there

    -- a new half-edge stands in the loop of the one that it was cut off
    new_face : (x h : ℕ) → HasHalf G h → holds x (content E (loop_of G h)) ≡ true → face_at E x ≡ face_at G h
    new_face x h there e = ap (face_of E) (E_sound.one_loop x (loop_of G h) e) ∙ kept.face (loop_of G h)

    content_is : (l : ℕ) → content E l ≡ rewritten (flat_map (doubled e k)) (content G l)
    content_is l = content-new G E (rewritten (flat_map (doubled e k))) (rewrites G e k v (cut_at G p e) goes) l

    new_part : IsFirstPart E k
    new_part = record {
      of = e;
      cut = within;
      starts = ap (point_of E) (tail_new G e k v (cut_at G p e) goes).0 ∙ kept_point G E kept (tail G (plus e)) (goes.can.sound.tails_there (plus e) plus_here)
          ∙ same_start M G p ds sound w.cut e (crossing_now M p sound g ds e es w) (uncut_now M p sound g ds e es w);
      ends = ap (point_of E) (tail_new G e k v (cut_at G p e) goes).1 ∙ point_new G e k v (cut_at G p e) goes
          ∙ same_cut M G p ds sound w.cut e (crossing_now M p sound g ds e es w) (uncut_now M p sound g ds e es w);
      face = new_face (plus k) (plus e) plus_here (ap (holds (plus k)) (content_is (loop_of G (plus e))) ∙ plus_held e k (content G (loop_of G (plus e))) (cycle_there G goes.can.sound (plus e) plus_here))
          ∙ face_kept G w.cut.kept (plus e) (plus_there M e old);
      beyond = new_face (minus k) (minus e) minus_here (ap (holds (minus k)) (content_is (loop_of G (minus e))) ∙ minus_held e k (content G (loop_of G (minus e))) (cycle_there G goes.can.sound (minus e) minus_here))
          ∙ face_kept G w.cut.kept (minus e) (minus_there M e old);
    }

    -- the part of another edge stays
    same_at : (h : ℕ) → HasHalf G h → edge_of h ≢ e → (start E h ≡ start G h) × (face_at E h ≡ face_at G h)
    same_at h there ne = (kept_start G E goes.can.sound kept h there (tail_other G e k v (cut_at G p e) goes h there ne), ap (face_of E) (kept.loop h there) ∙ kept.face (loop_of G h))

    still_part : (x : ℕ) → Has G.edges x → x ≢ e → IsFirstPart G x → IsFirstPart E x
    still_part x there ne part =
        let one = same_at (plus x) (plus_there G x there) (λ z. ne (sym (plus_row x).0 ∙ z)) in
        let two = same_at (minus x) (minus_there G x there) (λ z. ne (sym (minus_row x).0 ∙ z)) in
        record { of = part.of; cut = part.cut; starts = one.0 ∙ part.starts; ends = two.0 ∙ part.ends; face = one.1 ∙ part.face; beyond = two.1 ∙ part.beyond }

    now_known : (x : ℕ) → Has E.edges x → IsKnown E x
    now_known x there = elim (eqb_tells x k) [
      | inl s ↦ inr (subst (IsFirstPart E) (sym s.1) new_part)
      | inr s ↦ elim (eqb_tells x e) [
        | inl z ↦ inl (subst (λ y. Has M.edges y) (sym z.1) old)
        | inr z ↦
            let has : Has G.edges x = sym (ap is_some (edge_other G e k v (cut_at G p e) goes x z.1 s.1)) ∙ there in
            elim (known x has) [
              | inl was ↦ inl was
              | inr part ↦ inr (still_part x has z.1 part)
            ]
      ]
    ]

  edges_known : (g : Growing) (ds es : List ℕ) → Going M p g ds es → ((e : ℕ) → IsIn e es → IsIn e all) → ((x : ℕ) → Has g.model.edges x → IsKnown g.model x) →
      (x : ℕ) → Has (all_cut p g es).model.edges x → IsKnown (all_cut p g es).model x
  edges_known g ds [] w within known = known
  edges_known g ds (e ∷ es) w within known =
      edges_known (next_cut p g e) (e ∷ ds) es (going_on M p sound g ds e es w) (λ x i. within x (IsIn_rest x e es i))
      (subst (λ N. (x : ℕ) → Has N.edges x → IsKnown N x) (sym (next_model M p sound g ds e es w)) (now_known g ds e es w (within e (IsIn_head e es)) known))

-- ---- all edges of a solid cut

some_height : (a b : ℤ) → opposite a b ≡ true → (unsigned_abs a ≢ 0) × (unsigned_abs b ≢ 0)
some_height a b o = (λ e. grind (arith, ints), λ e. grind (arith, ints))

module _ (M : Model) (s : ℕ) (p : Plane) (t : ℕ) (sound : Sound M) (begun : CanBegin M s p t) where
  abbrev C : Model
  C = (with_crossings M s p).model

  abbrev crossing : List ℕ
  crossing = crossing_edges M p s

  are_cut : AreCut M C p (cuts.gone M s p t sound begun).list
  are_cut = cuts.crossings_cut M s p t sound begun

  known : (x : ℕ) → Has C.edges x → IsKnown M p sound crossing C x
  unfolding with_crossings
  known = edges_known M p sound crossing (growing M) [] crossing (cuts.begins M s p t sound begun) (λ e i. i) (λ x there. inl there)

  module _ (e : ℕ) (i : IsIn e crossing) where
    abbrev m : ℕ
    m = unsigned_abs (height p (start M (plus e)))

    abbrev n : ℕ
    n = unsigned_abs (height p (finish M (plus e)))

    there : Has M.edges e
    there = (edge_facts M sound s p e i).0

    crosses_there : (m ≢ 0) × (n ≢ 0)
    crosses_there = some_height (height p (start M (plus e))) (height p (finish M (plus e))) (edge_facts M sound s p e i).2

    divides : scaled (pos (m + n)) (towards (start M (plus e)) (cut_at M p e)) ≡ scaled (pos m) (towards (start M (plus e)) (finish M (plus e)))
    divides = cut_divides p (start M (plus e)) (finish M (plus e)) (edge_facts M sound s p e i).2 ((cuts.can_cut M s p t sound begun).whole e i)

  abbrev Comes : ℕ → Type 0
  Comes = ComesOf M C

  -- an edge that was there, cut or not
  module _ (x : ℕ) (has : Has M.edges x) where
    minus_same : start C (mate (plus x)) ≡ start M (mate (plus x))
    minus_same = ap (start C) (mate_plus x) ∙ kept_start M C sound are_cut.kept (minus x) (minus_there M x has) (are_cut.minus_tails x has) ∙ sym (ap (start M) (mate_plus x))

    old_comes : LeadsAlong M C (plus x) (plus x) → Comes (plus x)
    old_comes along = record {
      half = plus x;
      there = plus_there M x has;
      along = along;
      face = face_kept M p sound crossing C are_cut.kept (plus x) (plus_there M x has);
      beyond = ap (face_at C) (mate_plus x) ∙ face_kept M p sound crossing C are_cut.kept (minus x) (minus_there M x has) ∙ ap (face_at M) (sym (mate_plus x));
    }

    was_there : Comes (plus x)
    was_there = elim (IsIn_or_not x (cuts.gone M s p t sound begun).list) [
      | inl i ↦
          let j : IsIn x crossing = omega (arith, i, (cuts.gone M s p t sound begun).same x) in
          old_comes (rest_along M C (plus x) (plus x) (m x j) (n x j) (cut_at M p x) (crosses_there x j).1 (divides x j) (are_cut.cut_starts x has i) minus_same)
      | inr z ↦ old_comes (uncut_along M C (plus x) (plus x) (kept_start M C sound are_cut.kept (plus x) (plus_there M x has) (are_cut.plus_tails x has z)) minus_same)
    ]

  first_comes : (x : ℕ) → IsFirstPart M p sound crossing C x → Comes (plus x)
  first_comes x w = record {
    half = plus w.of;
    there = plus_there M w.of (there w.of w.cut);
    along = first_along M C (plus w.of) (plus x) (m w.of w.cut) (n w.of w.cut) (cut_at M p w.of) (crosses_there w.of w.cut).0 (divides w.of w.cut) w.starts (ap (start C) (mate_plus x) ∙ w.ends);
    face = w.face;
    beyond = ap (face_at C) (mate_plus x) ∙ w.beyond ∙ ap (face_at M) (sym (mate_plus w.of));
  }

  edge_comes : (x : ℕ) → Has C.edges x → Comes (plus x)
  edge_comes x has = elim (known x has) [
    | inl old ↦ was_there x old
    | inr first ↦ first_comes x first
  ]

  -- each half-edge leads along one that was there, between the same two faces
  pub half_comes : (h : ℕ) → HasHalf C h → Comes h
  half_comes h has = elim (halves_of_edge h) [
    | inl e ↦ subst Comes (sym e.0) (edge_comes (edge_of h) has)
    | inr e ↦ subst Comes (mate_plus (edge_of h) ∙ sym e.0) (turned_of M C (plus (edge_of h)) (edge_comes (edge_of h) has))
  ]
