-- The edges that are drawn in the faces that straddle a plane: each half-edge that is new leads from a place of its face to one on the other side, and
-- the half-edge that starts there follows it.
use Rattle.convex_laws.proofs.Prelude.{◌≡◌, ◌≢◌, ◌⊎◌, ℕ, ◌≤◌, Bool, not, List, [], ◌∷◌, None, refl, sym, ap, subst, ◌∙◌, arith, inl, inr, eq-eqb, Plane, IsIn, IsApart, count, after_mef, after_mev, mate, plus, minus, Model, after, face_at, tail, ring_in, Sound, HasHalf, mate_minus, mate_plus, mate_there, plus_other, splice_at, splice_at_other, splice_elsewhere, tick_same, all_pairs, drawn_pairs, straddling_faces, straddling_pairs, undrawn, with_crossings, with_drawings, CanBegin, DrawnIn, Stays, side_of, draw_stays, draw_tails, join_stays, join_tails, stays_on, drawable, take_sides, after_drawn, after_joined, halves_drawn, halves_joined, none_new, can_be_drawn}
use Rattle.euler_operators.specs.Table as table
use Rattle.split_drawing_laws.specs.drawings.Pairs.{AllFit, AllOf, FacesFit}
use Rattle.split_drawing_laws.specs.loop_sides.Parted.{AllCross, Crosses, FacesCross, Open, ends}
use Rattle.split_drawing_laws.proofs.drawings.Drawn.{face_drawn, loops_joined}
use Rattle.split_drawing_laws.proofs.drawings.Rings.{Newer, RingOf, moved_after, ring_back, ring_goes, ring_stays}
use Rattle.split_drawing_laws.proofs.loop_sides.Between.{Closes, IsKept, faces_kept}
use Rattle.split_drawing_laws.proofs.loop_sides.SidesWhole.{crosses_back, fewer}
use Rattle.split_drawing_laws.proofs.loop_sides.Follows.{mev_at_h, mev_else}

-- once m is put before d, d follows it
before_d : (next : ℕ → ℕ) (h m c d : ℕ) → after_mev next h m c d m ≡ d
before_d next h m c d = rw (eq-eqb m m refl) refl

-- half-edges c and d of B are places of one face, on different sides
pub record IsPair (B : Model) (first : ℕ → Bool) (Place : ℕ → Type 0) (c d : ℕ) : Type 0 where
  pub c_there : HasHalf B c
  pub d_there : HasHalf B d
  pub c_place : Place c
  pub d_place : Place d
  pub face : face_at B c ≡ face_at B d
  pub sides : first c ≡ not (first d)

-- half-edge x of N starts where a place of B does, and a place on its other side follows it; both aren't open any more
pub record IsLink (B N : Model) (first : ℕ → Bool) (Place : ℕ → Type 0) (places : List ℕ) (x : ℕ) : Type 0 where
  pub from : ℕ
  pub pair : IsPair B first Place from (after N x)
  pub starts : tail N x ≡ tail B from
  pub closed : count (after N x) places ≡ 0
  -- that place follows the mate of x
  pub back : after N (mate x) ≡ from
  pub from_closed : count from places ≡ 0

-- N is B with edges drawn: each half-edge that is new is such a link
pub record AreLinked (B N : Model) (first : ℕ → Bool) (Place : ℕ → Type 0) (places : List ℕ) : Type 0 where
  pub stays : Stays B N
  pub news : (x : ℕ) → HasHalf N x → HasHalf B x ⊎ IsLink B N first Place places x

module _ (B : Model) (p : Plane) (first : ℕ → Bool) (Place : ℕ → Type 0) where
  abbrev Linked : Model → List ℕ → Type 0
  Linked N places = AreLinked B N first Place places

  -- a pair between which an edge can be drawn
  record IsGood (q : ℕ × ℕ) : Type 0 where
    cross : Crosses B p first q
    pair : IsPair B first Place q.0 q.1

  turned_pair : (c d : ℕ) → IsPair B first Place c d → IsPair B first Place d c
  turned_pair c d w = record { c_there = w.d_there; d_there = w.c_there; c_place = w.d_place; d_place = w.c_place; face = sym w.face; sides = other (first c) (first d) w.sides } where
    other : (a b : Bool) → a ≡ not b → b ≡ not a
    other a b e = grind arith

  fewer_open : (N : Model) (places rest : List ℕ) → ((x : ℕ) → count x rest ≤ count x places) → Linked N places → Linked N rest
  fewer_open N places rest less w = record {
    stays = w.stays;
    news = λ x there. elim (w.news x there) [
      | inl old ↦ inl old
      | inr l ↦ inr (record { from = l.from; pair = l.pair; starts = l.starts; closed = omega (arith, l.closed, less (after N x)); back = l.back; from_closed = omega (arith, l.from_closed, less l.from) })
    ];
  }

  -- ---- one edge more, between c and d

  module _ (N K : Model) (c d e : ℕ) (places rest : List ℕ) (free : table.get N.edges e ≡ None) (pair : IsPair B first Place c d) (apart : c ≢ d) (places_apart : IsApart places) (closes : Closes c d places rest)
      (w : AreLinked B N first Place places) (stays : Stays N K)
      (leads : (x : ℕ) → HasHalf K x → after K x ≡ after_mef (after N) (plus e) (minus e) c d x)
      (cases : (x : ℕ) → HasHalf K x → HasHalf N x ⊎ ((x ≡ plus e) ⊎ (x ≡ minus e)))
      (tails : (tail K (plus e) ≡ tail N c) × (tail K (minus e) ≡ tail N d)) where
    abbrev Link : ℕ → Type 0
    Link x = IsLink B K first Place rest x

    next_plus : HasHalf K (plus e) → after K (plus e) ≡ d
    next_plus there = leads (plus e) there ∙ splice_at (after_mev (after N) (plus e) (minus e) c d) (plus e) (minus e) ∙ before_d (after N) (plus e) (minus e) c d

    next_minus : HasHalf K (minus e) → after K (minus e) ≡ c
    next_minus there = leads (minus e) there ∙ splice_at_other (after_mev (after N) (plus e) (minus e) c d) (plus e) (minus e) ∙ mev_at_h (after N) (plus e) (minus e) c d (plus_other e) apart

    c_closed : count c rest ≡ 0
    c_closed = omega (arith, closes c, tick_same c, places_apart c)

    d_closed : count d rest ≡ 0
    d_closed = omega (arith, closes d, tick_same d, places_apart d)

    -- a place that is closed follows what it followed
    still_after : (x : ℕ) → HasHalf N x → HasHalf K x → count (after N x) places ≡ 0 → after K x ≡ after N x
    still_after x old there closed =
        let new = none_new N e x free old in
        let not_c : after N x ≢ c = λ s. absurd (omega (arith, closed, ap (λ y. count y places) s, closes c, tick_same c)) in
        let not_d : after N x ≢ d = λ s. absurd (omega (arith, closed, ap (λ y. count y places) s, closes d, tick_same d)) in
        leads x there ∙ splice_elsewhere (after_mev (after N) (plus e) (minus e) c d) (plus e) (minus e) x new.0 new.1 ∙ mev_else (after N) (plus e) (minus e) c d x new.0 new.1 not_c not_d

    still_linked : (x : ℕ) → HasHalf N x → HasHalf K x → IsLink B N first Place places x → Link x
    still_linked x old there l =
        let same : after K x ≡ after N x = still_after x old there l.closed in
        record {
          from = l.from;
          pair = subst (IsPair B first Place l.from) (sym same) l.pair;
          starts = stays.tails x old ∙ l.starts;
          closed = ap (λ y. count y rest) same ∙ omega (arith, l.closed, closes (after N x));
          back = still_after (mate x) (mate_there N x old) (mate_there K x there) (ap (λ y. count y places) l.back ∙ l.from_closed) ∙ l.back;
          from_closed = omega (arith, l.from_closed, closes l.from);
        }

    first_linked : (x : ℕ) → HasHalf K x → x ≡ plus e → Link x
    first_linked x there is =
        let next : after K x ≡ d = ap (after K) is ∙ next_plus (subst (HasHalf K) is there) in
        let other : mate x ≡ minus e = ap mate is ∙ mate_plus e in
        record {
          from = c;
          pair = subst (IsPair B first Place c) (sym next) pair;
          starts = ap (tail K) is ∙ tails.0 ∙ w.stays.tails c pair.c_there;
          closed = ap (λ y. count y rest) next ∙ d_closed;
          back = ap (after K) other ∙ next_minus (subst (HasHalf K) other (mate_there K x there));
          from_closed = c_closed;
        }

    second_linked : (x : ℕ) → HasHalf K x → x ≡ minus e → Link x
    second_linked x there is =
        let next : after K x ≡ c = ap (after K) is ∙ next_minus (subst (HasHalf K) is there) in
        let other : mate x ≡ plus e = ap mate is ∙ mate_minus e in
        record {
          from = d;
          pair = subst (IsPair B first Place d) (sym next) (turned_pair c d pair);
          starts = ap (tail K) is ∙ tails.1 ∙ w.stays.tails d pair.d_there;
          closed = ap (λ y. count y rest) next ∙ c_closed;
          back = ap (after K) other ∙ next_plus (subst (HasHalf K) other (mate_there K x there));
          from_closed = d_closed;
        }

    linked_more : Linked K rest
    linked_more = record {
      stays = stays_on B N K w.stays stays;
      news = λ x there. elim (cases x there) [
        | inl old ↦ elim (w.news x old) [
          | inl was ↦ inl was
          | inr l ↦ inr (still_linked x old there l)
        ]
        | inr new ↦ elim new [
          | inl is ↦ inr (first_linked x there is)
          | inr is ↦ inr (second_linked x there is)
        ]
      ];
    }

  ring_linked : (M : Model) (f k : ℕ) (places : List ℕ) (N : Model) (l : ℕ) → DrawnIn M N f → RingOf N f l → Newer M N f k → Linked N places → Linked (ring_in N l k) places
  ring_linked M f k places N l drawn ring newer w =
      let goes = ring_goes M N f l k drawn ring newer in
      let stays = ring_stays N l k drawn.sound goes in
      record {
        stays = stays_on B N (ring_in N l k) w.stays stays;
        news = λ x there. let old = ring_back N l k drawn.sound goes x there in elim (w.news x old) [
          | inl was ↦ inl was
          | inr one ↦
              let same : after (ring_in N l k) x ≡ after N x = moved_after M N f l k drawn ring newer x old in
              inr (record {
                from = one.from;
                pair = subst (IsPair B first Place one.from) (sym same) one.pair;
                starts = stays.tails x old ∙ one.starts;
                closed = ap (λ y. count y places) same ∙ one.closed;
                back = moved_after M N f l k drawn ring newer (mate x) (mate_there N x old) ∙ one.back;
                from_closed = one.from_closed;
              })
        ];
      }

  linked_kept : IsKept IsGood (λ n N places. Open B places × Linked N places)
  linked_kept = record {
    turned = λ c d good. record { cross = crosses_back B p first c d good.cross; pair = turned_pair c d good.pair };
    join = λ n N c d e places rest can good closes a. (
      fewer B places rest (λ x. omega (arith, closes x)) a.0,
      linked_more N (loops_joined N c d e) c d e places rest can.edge_free good.pair good.cross.apart a.0.apart closes a.1
          (join_stays N c d e can) (after_joined N c d e can) (halves_joined N c d e can) (join_tails N c d e can),
    );
    draw = λ n N c d e f l places rest can good closes a. (
      fewer B places rest (λ x. omega (arith, closes x)) a.0,
      linked_more N (face_drawn N c d e f l) c d e places rest can.edge_free good.pair good.cross.apart a.0.apart closes a.1
          (draw_stays N c d e f l can) (after_drawn N c d e f l can) (halves_drawn N c d e f l can) (draw_tails N c d e f l can),
    );
    stop = λ f d places rest some less a. (fewer B places rest less a.0, fewer_open d.model places rest less a.1);
    move = λ n M f k N l places drawn ring newer a. (a.0, ring_linked M f k places N l drawn ring newer a.1);
  }

-- ---- the faces of a solid that straddle

-- half-edge y of C starts at a place of a face that straddles
pub record IsEnd (M C : Model) (s : ℕ) (p : Plane) (y : ℕ) : Type 0 where
  pub face : ℕ
  pub straddling : IsIn face (straddling_faces M p s)
  pub listed : IsIn y (ends (drawn_pairs M C p face))
  pub at : face_at C y ≡ face

module _ (M : Model) (s : ℕ) (p : Plane) (t : ℕ) (sound : Sound M) (begun : CanBegin M s p t) where
  abbrev C : Model
  C = (with_crossings M s p).model

  abbrev Good : ℕ × ℕ → Type 0
  Good = IsGood C p (side_of M s p) (IsEnd M C s p)

  module _ (f : ℕ) (i : IsIn f (straddling_faces M p s)) where
    pairs_good : (qs : List (ℕ × ℕ)) → AllFit C f qs → AllCross C p (side_of M s p) qs → ((y : ℕ) → IsIn y (ends qs) → IsIn y (ends (drawn_pairs M C p f))) → AllOf Good qs
    pairs_good [] fit cross within = tt
    pairs_good (q ∷ qs) fit cross within = (
      record {
        cross = cross.0;
        pair = record {
          c_there = fit.0.u_there;
          d_there = fit.0.k_there;
          c_place = record { face = f; straddling = i; listed = within q.0 (omega (arith, tick_same q.0)); at = fit.0.u_face };
          d_place = record { face = f; straddling = i; listed = within q.1 (omega (arith, tick_same q.1)); at = fit.0.k_face };
          face = fit.0.u_face ∙ sym fit.0.k_face;
          sides = cross.0.sides;
        };
      },
      pairs_good qs fit.1 cross.1 (λ y j. within y (omega (arith, j))),
    )

  each_good : (gs : List ℕ) → ((f : ℕ) → IsIn f gs → IsIn f (straddling_faces M p s)) → FacesFit C (all_pairs M C p gs) → FacesCross C p (side_of M s p) (all_pairs M C p gs) → AllOf (λ f. AllOf Good f.pairs) (all_pairs M C p gs)
  each_good [] within fit cross = tt
  each_good (g ∷ gs) within fit cross = (
    pairs_good g (within g (omega (arith, tick_same g))) (drawn_pairs M C p g) fit.0.0 cross.0 (λ y j. j),
    each_good gs (λ f j. within f (omega (arith, j))) fit.1 cross.1,
  )

  pub drawings_linked : AreLinked (with_crossings M s p).model (with_drawings M s p).model (side_of M s p) (IsEnd M (with_crossings M s p).model s p) []
  unfolding with_drawings
  drawings_linked =
      let can = can_be_drawn M s p t sound begun in
      let sides = take_sides M s p t sound begun in
      (faces_kept p Good (λ n N places. Open C places × AreLinked C N (side_of M s p) (IsEnd M C s p) places) (linked_kept C p (side_of M s p) (IsEnd M C s p))
      (undrawn (with_crossings M s p)) (straddling_pairs M s p) 0 (drawable (with_crossings M s p) (straddling_pairs M s p) can) sides.some (each_good (straddling_faces M p s) (λ f j. j) can.fit sides.cross)
      (sides.fine, record { stays = record { halves = λ h there. there; tails = λ h there. refl; vertices = refl; faces = λ g there. there }; news = λ x there. inl there })).1
