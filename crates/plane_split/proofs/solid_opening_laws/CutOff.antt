-- The strips of a cycle cut off one after the other.
use Rattle.plane_split.proofs.Prelude.{◌≡◌, ℕ, ◌+◌, ◌≤◌, ◌<◌, List, [], ◌∷◌, ◌++◌, length, None, sym, ap, ◌∙◌, subst, arith, get_or, mate, Model, HasHalf, first_false, effects, Taken, strips_cut, cut_strip, strip_ops, cut_half, strip_accepted, CanOpen}
use Rattle.split_opening_laws.proofs.strips.Cycle as on
use Rattle.split_opening_laws.proofs.strips.Whole.{strips_lead, part_sound}
use Rattle.plane_split.proofs.solid_opening_laws.Items.{one_on}

module _ (M : Model) (s : ℕ) (c : Taken) (bs : List ℕ) (can : CanOpen M s c bs) where
  -- the model with the first i strips cut off
  pub so_far : (i : ℕ) → i ≤ length bs → effects M (strip_ops M s c bs i) ≡ strips_cut M s c bs i
  so_far i le = (strips_lead M can.0 s c bs can.1 i le).made

  module _ (i : ℕ) (lt : i < length bs) (X : Model) (x : X ≡ effects M (strip_ops M s c bs i)) where
    is_cut : X ≡ strips_cut M s c bs i
    is_cut = x ∙ so_far i (omega (arith, lt))

    -- the next mate is there
    pub mate_there : HasHalf X (mate (get_or bs i 0))
    mate_there = subst (λ Y. HasHalf Y (mate (get_or bs i 0))) (sym is_cut) (cut_half M can.0 s c bs can.1 i (mate (get_or bs i 0)) (on.mate_there M can.0 s c bs can.1 i lt))

    -- the next strip can be cut off
    pub strip_goes : first_false X (cut_strip X c bs i) ≡ None
    strip_goes = (λ j. first_false (is_cut j) (cut_strip (is_cut j) c bs i)) ∙ strip_accepted M can.0 s c bs can.1 i lt (part_sound M can.0 s c bs can.1 i (omega (arith, lt)))

    -- and then one more is
    pub one_more : strip_ops M s c bs i ++ cut_strip X c bs i ∷ [] ≡ strip_ops M s c bs (i + 1)
    one_more = (λ j. strip_ops M s c bs i ++ cut_strip (is_cut j) c bs i ∷ []) ∙ ap (strip_ops M s c bs) (one_on i)
