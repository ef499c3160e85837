-- Two faces that are being glued: the items that are left, what stands beside the next one, and what its steps make.
use Rattle.gluing.proofs.Prelude.{◌≡◌, ◌≢◌, ℕ, ◌+◌, ◌<◌, List, [], ◌∷◌, ◌++◌, length, None, refl, sym, ap, ◌∙◌, subst, arith, map, reverse, append_assoc, length-append, length-map, length-reverse, IsIn, IsApart, head_or, last_or, canonical, tick, successor, predecessor, mate, half, Model, outer, cycle_of, Sound, HasHalf, first_false, count-append, tick_same, canonical-rotates, length-canonical, successor_head, successor_same, predecessor_head, predecessor_same, last_or_push, IsIn_last, reverse-cons, count-reverse, Op, Kef, effects, AreAccepted, effects_keep_sound, Around, half_is, cycle_is, apart_xs, rim, partner, glue_ops, fresh_edge, closing, closings, seam, glued_part, DraftJournal, after_step, after_steps, step_after, steps_after, steps_make}
use Rattle.euler_operators.specs.Model as model
use Rattle.gluing_laws.proofs.glue.Stages.{Stage, around_l}
use Rattle.gluing_laws.proofs.glue.Turn.{turn_accepted, turn_is}
use Rattle.gluing_laws.proofs.glue.Ending.{ending_ok}

-- of a glue of face g to face f, a model in which the items from `item` on are left
pub record Joining (M : Model) (f g : ℕ) (N : Model) (item : ℕ) : Type 0 where
  pub done : List ℕ
  pub later : List ℕ
  pub stage : Stage M f g (partner M (rim M g)) (rim M f) (fresh_edge M) (last_or item later) done (item ∷ later)
  pub model : N ≡ glued_part M f g (partner M (rim M g)) (last_or item later) done (item ∷ later)

-- a draft in which some items are glued: the steps that it has taken since the old one, and the operators that are left
pub record Halfway (old new : DraftJournal) (f g : ℕ) (item : ℕ) : Type 0 where
  pub joining : Joining old.model f g new.model item
  pub taken : List Op
  pub steps : new ≡ after_steps old taken
  pub left : taken ++ closings (partner old.model (rim old.model g)) (fresh_edge old.model) g (outer old.model g) (item ∷ joining.later) ≡ glue_ops old.model f g

-- ---- the seam

module _ (p : ℕ → ℕ) (item : ℕ) where
  -- what follows the item in the seam
  abbrev others : List ℕ → List ℕ
  others later = later ++ reverse (p item ∷ map p later)

  first_other : (later : List ℕ) → head_or item (others later) ≡ head_or (p item) later
  first_other [] = refl
  first_other (k ∷ ks) = refl

  last_other : (later : List ℕ) → last_or item (others later) ≡ p item
  last_other later = ap (λ t. last_or item (later ++ t)) (reverse-cons (p item) (map p later))
      ∙ ap (last_or item) (sym (append_assoc later (reverse (map p later)) (p item ∷ [])))
      ∙ last_or_push item (p item) (later ++ reverse (map p later))

  -- only the last item has its partner next
  no_more : (later : List ℕ) → IsApart (seam p (item ∷ later)) → head_or (p item) later ≡ p item → later ≡ []
  no_more [] a e = refl
  no_more (k ∷ ks) a e = absurd (omega (arith, a k, e, tick_same k, count-append k ks (reverse (map p (item ∷ k ∷ ks))), count-reverse k (map p (item ∷ k ∷ ks)), ap (tick k) e))

  some_more : (later : List ℕ) → head_or (p item) later ≢ p item → (ks : List ℕ) × (later ≡ head_or (p item) later ∷ ks)
  some_more [] ne = absurd (ne refl)
  some_more (k ∷ ks) ne = (ks, refl)

  -- one item less, and its partner
  shorter : (k : ℕ) (ks : List ℕ) → length (canonical (seam p (k ∷ ks))) < length (canonical (seam p (item ∷ k ∷ ks)))
  shorter k ks = omega (arith, seam_length (k ∷ ks), seam_length (item ∷ k ∷ ks)) where
    seam_length : (js : List ℕ) → length (canonical (seam p js)) ≡ length js + length js
    seam_length js = length-canonical (seam p js) ∙ length-append js (reverse (map p js)) ∙ ap (λ n. length js + n) (length-reverse (map p js) ∙ length-map js p)

-- ---- on the way

module _ (M : Model) (f g : ℕ) (N : Model) (item : ℕ) (w : Joining M f g N item) where
  abbrev p : ℕ → ℕ
  p = partner M (rim M g)

  abbrev x : ℕ
  x = fresh_edge M

  abbrev hs : List ℕ
  hs = rim M f

  abbrev X : Model
  X = glued_part M f g p (last_or item w.later) w.done (item ∷ w.later)

  abbrev round : List ℕ
  round = seam p (item ∷ w.later)

  around : Around X (outer M f) f round
  around = around_l M f g p hs x (last_or item w.later) w.done (item ∷ w.later) w.stage

  here : IsIn item round
  here = omega (arith, tick_same item)

  apart : IsApart round
  apart = apart_xs X (outer M f) f round around

  pub item_there : HasHalf N item
  item_there = subst (λ Y. HasHalf Y item) (sym w.model) (half_is X (outer M f) f round around item here)

  pub cycle_here : cycle_of N item ≡ canonical round
  cycle_here = ap (λ Y. cycle_of Y item) w.model ∙ cycle_is X (outer M f) f round around item here

  -- the partner comes before the item
  pub before_is : model.before N item ≡ p item
  unfolding model.before
  before_is = ap (λ q. predecessor q item) cycle_here
      ∙ sym (predecessor_same item round (canonical round) (canonical-rotates round) apart here)
      ∙ predecessor_head item (others p item w.later)
      ∙ last_other p item w.later

  -- and after it the next item, or the partner of the last
  after_is : model.after N item ≡ head_or (p item) w.later
  unfolding model.after
  after_is = ap (λ q. successor q item) cycle_here
      ∙ sym (successor_same item round (canonical round) (canonical-rotates round) apart here)
      ∙ successor_head item (others p item w.later)
      ∙ first_other p item w.later

  -- what is read beside the item
  module _ (q n : ℕ) (previous : q ≡ model.before N item) (next : n ≡ model.after N item) where
    previous_is : q ≡ p item
    previous_is = previous ∙ before_is

    next_is : n ≡ head_or (p item) w.later
    next_is = next ∙ after_is

    -- ---- the last item

    module _ (same : n ≡ q) where
      none_later : w.later ≡ []
      none_later = no_more p item w.later apart (sym next_is ∙ same ∙ previous_is)

      stage_last : Stage M f g p hs x item w.done (item ∷ [])
      stage_last = subst (λ ks. Stage M f g p hs x (last_or item ks) w.done (item ∷ ks)) none_later w.stage

      model_last : N ≡ glued_part M f g p item w.done (item ∷ [])
      model_last = w.model ∙ ap (λ ks. glued_part M f g p (last_or item ks) w.done (item ∷ ks)) none_later

      module _ (op : Op) (is : op ≡ Kef (half (mate q))) where
        op_is : op ≡ Kef (half (mate (p item)))
        op_is = is ∙ ap (λ k. Kef (half (mate k))) previous_is

        -- only its partner's edge goes
        pub last_goes : first_false N op ≡ None
        last_goes = (λ i. first_false (model_last i) (op_is i)) ∙ ending_ok M f g p hs x w.done item stage_last

    -- ---- another item

    module _ (other : n ≢ q) where
      found : (ks : List ℕ) × (w.later ≡ head_or (p item) w.later ∷ ks)
      found = some_more p item w.later (λ e. other (next_is ∙ e ∙ sym previous_is))

      abbrev ks : List ℕ
      ks = found.0

      later_is : w.later ≡ n ∷ ks
      later_is = found.1 ∙ ap (λ k. k ∷ ks) (sym next_is)

      abbrev Y : Model
      Y = glued_part M f g p (last_or n ks) w.done (item ∷ n ∷ ks)

      stage_next : Stage M f g p hs x (last_or n ks) w.done (item ∷ n ∷ ks)
      stage_next = subst (λ ls. Stage M f g p hs x (last_or item ls) w.done (item ∷ ls)) later_is w.stage

      model_next : N ≡ Y
      model_next = w.model ∙ ap (λ ls. glued_part M f g p (last_or item ls) w.done (item ∷ ls)) later_is

      accepted_here : AreAccepted Y (closing (p item) n x g (outer M g))
      accepted_here = turn_accepted M f g p hs x (last_or n ks) w.done item n ks stage_next (IsIn_last n ks)

      made_here : effects Y (closing (p item) n x g (outer M g)) ≡ glued_part M f g p (last_or n ks) (w.done ++ item ∷ []) (n ∷ ks)
      made_here = turn_is M f g p hs x (last_or n ks) w.done item n ks stage_next (IsIn_last n ks)

      module _ (e s l : ℕ) (edge : e ≡ x) (face : s ≡ g) (ring : l ≡ outer M g) where
        ops_are : closing q n e s l ≡ closing (p item) n x g (outer M g)
        ops_are = λ i. closing (previous_is i) n (edge i) (face i) (ring i)

        -- no operator that closes the item is refused
        pub closing_goes : AreAccepted N (closing q n e s l)
        closing_goes = subst (AreAccepted N) (sym ops_are) (subst (λ Z. AreAccepted Z (closing (p item) n x g (outer M g))) (sym model_next) accepted_here)

        module _ (K : Model) (made : K ≡ effects N (closing q n e s l)) where
          -- and then the items after it are left
          pub closing_makes : Joining M f g K n
          closing_makes = record {
            done = w.done ++ item ∷ [];
            later = ks;
            stage = record {
              facing = w.stage.facing;
              split = stage_next.split ∙ sym (append_assoc w.done (item ∷ []) (n ∷ ks));
              last_in = IsIn_last n ks;
              sound = subst Sound made_here (effects_keep_sound Y (closing (p item) n x g (outer M g)) stage_next.sound accepted_here);
            };
            model = made ∙ (λ i. effects (model_next i) (ops_are i)) ∙ made_here;
          }

          fewer : length (canonical (seam p (n ∷ ks))) < length (cycle_of N item)
          fewer = let old = ap length cycle_here ∙ ap (λ ls. length (canonical (seam p (item ∷ ls)))) later_is in let less = shorter p item n ks in omega (arith, old, less)

-- with each item that is closed the seam gets shorter
pub closing_shortens : (M : Model) (f g : ℕ) (N : Model) (item : ℕ) (w : Joining M f g N item) (q n : ℕ) (previous : q ≡ model.before N item) (next : n ≡ model.after N item) (other : n ≢ q)
    (e s l : ℕ) (edge : e ≡ fresh_edge M) (face : s ≡ g) (ring : l ≡ outer M g) (K : Model) (made : K ≡ effects N (closing q n e s l)) → length (cycle_of K n) < length (cycle_of N item)
unfolding closing_makes
closing_shortens M f g N item w q n previous next other e s l edge face ring K made =
    let new : length (cycle_of K n) ≡ length (canonical (seam (partner M (rim M g)) (n ∷ ks M f g N item w q n previous next other))) =
    ap length (cycle_here M f g K n (closing_makes M f g N item w q n previous next other e s l edge face ring K made)) in
    subst (λ k. k < length (cycle_of N item)) (sym new) (fewer M f g N item w q n previous next other e s l edge face ring K made)

-- ---- the same in a draft
module _ (old new : DraftJournal) (f g item : ℕ) (w : Halfway old new f g item) (q n : ℕ) (previous : q ≡ model.before new.model item) (next : n ≡ model.after new.model item) where
  abbrev partner_of : ℕ → ℕ
  partner_of = partner old.model (rim old.model g)

  -- the operators that are left where these are the later items
  abbrev rest : List ℕ → List Op
  rest later = closings partner_of (fresh_edge old.model) g (outer old.model g) (item ∷ later)

  -- after the last item all steps are taken
  pub all_steps : (same : n ≡ q) (op : Op) → op ≡ Kef (half (mate q)) → (K : DraftJournal) → K ≡ after_step new op → K ≡ after_steps old (glue_ops old.model f g)
  all_steps same op is K made =
      step_after old new K w.taken op w.steps made ∙ ap (after_steps old) (
      ap (λ (o : Op). w.taken ++ o ∷ []) (op_is old.model f g new.model item w.joining q n previous next same op is)
      ∙ ap (λ ls. w.taken ++ rest ls) (sym (none_later old.model f g new.model item w.joining q n previous next same))
      ∙ w.left)

  -- after another item the steps go on
  pub closing_goes_on : (other : n ≢ q) (e s l : ℕ) (edge : e ≡ fresh_edge old.model) (face : s ≡ g) (ring : l ≡ outer old.model g) (K : DraftJournal) → K ≡ after_steps new (closing q n e s l) → Halfway old K f g n
  unfolding closing_makes
  closing_goes_on other e s l edge face ring K made =
      let ops = closing (partner_of item) n (fresh_edge old.model) g (outer old.model g) in
      let more = closings partner_of (fresh_edge old.model) g (outer old.model g) (n ∷ ks old.model f g new.model item w.joining q n previous next other) in
      record {
        joining = closing_makes old.model f g new.model item w.joining q n previous next other e s l edge face ring K.model (steps_make new K (closing q n e s l) made);
        taken = w.taken ++ ops;
        steps = steps_after old new K w.taken ops w.steps (made ∙ ap (after_steps new) (ops_are old.model f g new.model item w.joining q n previous next other e s l edge face ring));
        left = append_assoc w.taken ops more
            ∙ ap (λ ls. w.taken ++ rest ls) (sym (later_is old.model f g new.model item w.joining q n previous next other))
            ∙ w.left;
      }
