-- Opening a solid makes no lines: each half-edge starts and ends where one did before. So each half-edge of the parts of a split lies on its plane, or
-- leads along one of the solid that was split.
use Rattle.command_laws.proofs.Prelude.{◌≡◌, ◌⊎◌, ℕ, suc, ◌+◌, ◌<◌, pos, Bool, true, List, [], map, filter, get_or, length, refl, sym, ap, subst, ◌∙◌, arith, inl, inr, true≢false, eq-eqb, eqb-true, nat_tests, Plane, edge_of, is_on, mate, plus, minus, Model, face_at, point_of, solid_of, tail, Sound, HasHalf, edge_of-mate, IsIn-get_or, mate-mate, mate_minus, mate_plus, mate_there, halves_of_edge, listed_front, Taken, below_halves, finish, opened_along, outer_caps, scaled, section_cycles, start, towards, CanBegin, crossings_measured, solid_stays, start_stays, upper_faces, CanBeOpened, IsBelowHalf, opened_sound, can_open, openings_carry, half_cases, begins, back_along, finish_old, start_old, Machine, held, IsSplit, EndsOn, LeadsAlong, LeadsAlongSolid, SplitsMakeNoLines, IsOfEither, stages}
use Rattle.euler_operators.specs.Table as table
use Rattle.split_laws.proofs.volumes.Split as split
use Rattle.split_laws.proofs.opened.Caps.{numbers_place}
use Rattle.command_laws.proofs.splits_laws.Along.{half_comes}
use Rattle.command_laws.proofs.splits_laws.NewEdges.{IsDrawnOn, drawings_on}
use Rattle.command_laws.proofs.Inner.{AgreeBut}
use Rattle.command_laws.proofs.Owners.{Agree, agree_on, half_kept, is_either, is_of, solid_of_half, is_it}
use Rattle.command_laws.proofs.splits_laws.DrawnWithin.{drawn_within}
use Rattle.command_laws.proofs.splits_laws.PartedWithin.{holes_keep, holes_within, opened_within, part_keeps}
use Rattle.command_laws.proofs.splits_laws.Steps.{part_agrees}
use Rattle.command_laws.proofs.splits_laws.Whole as whole

-- a half-edge of one of the solids that come was of the solid
was_of : (G H : Model) (s : ℕ) (b : ℕ → Bool) → Agree G H (is_of s) b → (h : ℕ) → HasHalf G h → b (solid_of_half H h) ≡ true → solid_of_half G h ≡ s
was_of G H s b w h there in_b = is_it s (solid_of_half G h) (λ out. true≢false (sym in_b ∙ (half_kept G H (is_of s) b w h there out).1))

-- half-edge h of N starts and ends where one of D does, and that is of solid s if h is of one of these solids
record Retraces (D N : Model) (s : ℕ) (b : ℕ → Bool) (h : ℕ) : Type 0 where
  half : ℕ
  there : HasHalf D half
  starts : start N h ≡ start D half
  ends : finish N h ≡ finish D half
  solid : b (solid_of_half N h) ≡ true → solid_of_half D half ≡ s

abbrev Retraced : Model → Model → ℕ → (ℕ → Bool) → Type 0
Retraced D N s b = (h : ℕ) → HasHalf N h → Retraces D N s b h

retraced_on : (D N K : Model) (s : ℕ) (b : ℕ → Bool) → Retraced D N s (is_of s) → Retraced N K s b → Retraced D K s b
retraced_on D N K s b v w h there =
    let r = w h there in let q = v r.half r.there in
    record { half = q.half; there = q.there; starts = r.starts ∙ q.starts; ends = r.ends ∙ q.ends; solid = λ of. q.solid (eq-eqb (solid_of_half N r.half) s (r.solid of)) }

-- ---- opened along one cycle

module _ (M : Model) (above : List ℕ) (s : ℕ) (c : Taken) (bs : List ℕ) (w : CanBeOpened M above s c bs) (within : AgreeBut s M (opened_along M above s c bs)) where
  abbrev N : Model
  N = opened_along M above s c bs

  abbrev Back : ℕ → Type 0
  Back = Retraces M N s (is_of s)

  module _ (j : ℕ) (l : j < length bs) where
    abbrev b : ℕ
    b = get_or bs j 0

    abbrev x : ℕ
    x = c.edge + suc j

    b_is : IsBelowHalf M above s b
    b_is = w.cycle.halves b (IsIn-get_or bs j 0 l)

    minus_retraces : Back (minus x)
    minus_retraces = record { half = b; there = b_is.there; solid = λ of. b_is.of_solid; starts = (back_along M above s c bs w j l).0; ends = (back_along M above s c bs w j l).1 }

    plus_retraces : Back (plus x)
    plus_retraces = record {
      half = mate b;
      there = mate_there M b b_is.there;
      solid = λ of. sym (w.sound.one_solid b b_is.there) ∙ b_is.of_solid;
      starts = ap (start N) (sym (mate_minus x)) ∙ (back_along M above s c bs w j l).1;
      ends = ap (start N) (mate_plus x) ∙ (back_along M above s c bs w j l).0 ∙ ap (start M) (sym (mate-mate b));
    }

  opened_retraces : Retraced M (opened_along M above s c bs) s (is_of s)
  opened_retraces h there = elim (half_cases M above s c bs w.sound w.free h there) [
    | inl old ↦ record { half = h; there = old; starts = start_old M above s c bs w h old; ends = finish_old M above s c bs w h old; solid = was_of M N s (is_of s) within h old }
    | inr r ↦ let i = numbers_place c.edge (length bs) (edge_of h) r.0 in elim (halves_of_edge h) [
      | inl e ↦ subst Back (sym (e.0 ∙ ap plus i.2)) (plus_retraces i.0 i.1)
      | inr e ↦ subst Back (sym (e.0 ∙ ap minus i.2)) (minus_retraces i.0 i.1)
    ]
  ]

-- ---- edges and vertices that stay

module _ (M N : Model) (s : ℕ) (b : ℕ → Bool) (edges : N.edges ≡ M.edges) (vertices : N.vertices ≡ M.vertices) (w : Agree M N (is_of s) b) where
  same_start : (h : ℕ) → start N h ≡ start M h
  unfolding tail point_of
  same_start h = λ i. start (record M { edges = edges i; vertices = vertices i }) h

  still_retraces : Retraced M N s b
  still_retraces h there =
      let was : HasHalf M h = subst (λ t. table.has t (edge_of h) ≡ true) edges there in
      record { half = h; there = was; starts = same_start h; ends = same_start (mate h); solid = was_of M N s b w h was }

-- ---- a whole split

module _ (before after : Machine) (s : ℕ) (p : Plane) (t : ℕ) (sound : Sound (held before)) (made : IsSplit before after s p t) where
  abbrev M : Model
  M = held before

  open stages M s p t use {cut as C, drawing as d, above, opened as X, closed as K, parted as P}

  pub begun : CanBegin M s p t
  begun = begins M s p t sound made.0

  opened : Retraced d.model X.model s (is_of s)
  opened = openings_carry above s p (λ x ds. Retraced d.model x.model s (is_of s))
      (λ x bs cs w a.
      let can = can_open above s x bs cs w in
      let Y : Model = opened_along x.model above s x.taken bs in
      let within : AgreeBut s x.model Y = opened_within x.model above s x.taken bs can (opened_sound x.model above s x.taken bs can) (λ f l. w.upper_of_solid f (listed_front above (map (λ k. k.upper) x.caps) f l)) in
      retraced_on d.model x.model Y s (is_of s) a (opened_retraces x.model above s x.taken bs can within))
      (record { model = d.model; taken = d.taken; caps = [] }) (section_cycles d.model (below_halves d.model above s)) (whole.can before after s p t sound made).opens
      (λ h there. record { half = h; there = there; starts = refl; ends = refl; solid = λ of. eqb-true (solid_of_half d.model h) s of })

  agree : Agree X.model P (is_of s) (is_either s t)
  agree =
      let can = whole.can before after s p t sound made in
      let closed = whole.closed before after s p t sound made in
      agree_on X.model K P (is_of s) (is_of s) (is_either s t)
      (holes_within X.model s X.caps (split.ended d above s p t can).sound (split.caps d above s p t can).plain closed.leads.accepted)
      (part_agrees K s t (upper_faces above X.caps) closed.part.sound (whole.after_sound before after s p t sound made) closed.part.of_solid (whole.fresh before after s p t sound made))

  parted : Retraced d.model P s (is_either s t)
  parted =
      let closed = holes_keep (outer_caps X.caps) X.model (filter (λ k. k.hole) X.caps) in
      let last = part_keeps K s t (upper_faces above X.caps) in
      retraced_on d.model X.model P s (is_either s t) opened (still_retraces X.model P s (is_either s t) (last.1 ∙ closed.1) (last.0 ∙ closed.0) agree)

  drawn : IsDrawnOn C p d.model
  drawn = drawings_on M s p t sound begun

  abbrev Known : Model → ℕ → Type 0
  Known G h = IsOfEither G s t (face_at G h) → EndsOn G p h ⊎ LeadsAlongSolid M G s h

  -- a half-edge with its edges cut is of the solid if it is so once they are drawn, and then so is the one along which it leads
  pub came_of : (x : ℕ) (was : HasHalf C x) → solid_of_half d.model x ≡ s → solid_of M (face_at M (half_comes M s p t sound begun x was).half) ≡ s
  came_of x was of =
      ap (solid_of M) (sym (half_comes M s p t sound begun x was).face) ∙ sym (solid_stays M C (crossings_measured M s p t sound begun).faces (face_at C x))
      ∙ was_of C d.model s (is_of s) (drawn_within M s p t sound begun) x was (eq-eqb (solid_of_half d.model x) s of)

  in_either : (k : ℕ) → IsOfEither P s t k → is_either s t (solid_of P k) ≡ true
  in_either k of = elim of [
    | inl e ↦ ap (λ u. is_either s t u) e ∙ first_part
    | inr e ↦ ap (λ u. is_either s t u) e ∙ second_part
  ] where
    first_part : is_either s t s ≡ true
    first_part = grind (arith, nat_tests)

    second_part : is_either s t t ≡ true
    second_part = grind (arith, nat_tests)

  along_as : (g x h : ℕ) → start P h ≡ start C x → finish P h ≡ finish C x → LeadsAlong M C g x → LeadsAlong M P g h
  along_as g x h starts ends w = record {
    from = w.from;
    part = w.part;
    rest = w.rest;
    some = w.some;
    starts = ap (λ q. scaled (pos (w.from + w.part + w.rest)) (towards (start M g) q)) starts ∙ w.starts;
    leads = (λ i. scaled (pos (w.from + w.part + w.rest)) (towards (starts i) (ends i))) ∙ w.leads;
  }

  known : (h : ℕ) → HasHalf P h → Known P h
  known h there of =
      let r = parted h there in
      let x = r.half in
      let along : HasHalf C x → EndsOn P p h ⊎ LeadsAlongSolid M P s h = λ was.
      let w = half_comes M s p t sound begun x was in
      inr (record {
        half = w.half;
        there = w.there;
        solid = came_of x was (r.solid (in_either (face_at P h) of));
        along = along_as w.half x h (r.starts ∙ start_stays C d.model drawn.stays x was) (r.ends ∙ start_stays C d.model drawn.stays (mate x) (mate_there C x was)) w.along;
      }) in
      elim (drawn.news x r.there) [
        | inl was ↦ along was
        | inr on ↦ elim (drawn.news (mate x) (mate_there d.model x r.there)) [
          | inl was ↦ along (ap (table.has C.edges) (sym (edge_of-mate x)) ∙ was)
          | inr on_too ↦ inl (ap (is_on p) r.starts ∙ on, ap (is_on p) r.ends ∙ on_too)
        ]
      ]

  after_known : (h : ℕ) → HasHalf (held after) h → Known (held after) h
  after_known = subst (λ G. (h : ℕ) → HasHalf G h → Known G h) (sym (whole.after_is before after s p t sound made)) known

pub splits_make_no_lines : SplitsMakeNoLines
splits_make_no_lines before after s p t h sound made there of = after_known before after s p t sound made h there of
