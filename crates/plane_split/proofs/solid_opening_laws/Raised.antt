-- The copies of a cycle's vertices raised one after the other, once its strips are cut off.
use Rattle.plane_split.proofs.Prelude.{◌≡◌, ℕ, zero, suc, ◌+◌, ◌≤◌, ◌<◌, cond, not, ◌&&◌, List, [], ◌∷◌, ◌++◌, length, map, None, unwrap_or, refl, sym, ap, ◌∙◌, subst, arith, inl, inr, get_or, Point, count, At, mate, half, plus, minus, Model, tail, point_of, no_point, Sound, HasHalf, first_false, lists, IsIn_or_not, Op, Mev, effects, Taken, numbers_after, renamed, copy_riser, copied, strips_cut, copies_raised, place_before, raise_copy, copy_ops, cut_tail, AreStripped}
use Rattle.euler_operators.specs.Table as table
use Rattle.split_opening_laws.proofs.sections.Numbered.{in_numbers}
use Rattle.split_opening_laws.proofs.sections.StillFree.{copied_other}
use Rattle.split_opening_laws.specs.strips.Opened.{CanBeOpened}
use Rattle.split_opening_laws.proofs.strips.Cycle as on
use Rattle.split_opening_laws.proofs.copies.Copies.{copy_accepted}
use Rattle.split_opening_laws.proofs.copies.Raised.{old_half, old_tail, raised_vertices}
use Rattle.split_opening_laws.proofs.copies.Raising.{copies_lead, part_sound}
use Rattle.plane_split.proofs.solid_opening_laws.Items.{one_on}

-- an operator that raises a copy, by the point of the vertex
abbrev raised_at : Taken → List ℕ → ℕ → Point → Op
raised_at c bs i point = Mev (At (half (minus (c.edge + suc i)))) (At (half (mate (get_or bs (place_before (length bs) i) 0)))) (half (plus (copy_riser c bs i))) (c.vertex + suc i) point

module _ (M : Model) (above : List ℕ) (s : ℕ) (c : Taken) (bs : List ℕ) (w : CanBeOpened M above s c bs) where
  abbrev m : ℕ
  m = length bs

  -- the point at which the half at a place starts
  abbrev start_in : Model → ℕ → Point
  start_in N i = point_of N (tail N (get_or bs i 0))

  cut_vertices : (strips_cut M s c bs m).vertices ≡ M.vertices
  unfolding strips_cut
  cut_vertices = refl

  cut_point : (v : ℕ) → point_of (strips_cut M s c bs m) v ≡ point_of M v
  unfolding point_of
  cut_point v = ap (λ t. unwrap_or (table.get t v) no_point) cut_vertices

  -- the strips leave it as it is
  cut_start : (i : ℕ) → i < m → start_in (strips_cut M s c bs m) i ≡ start_in M i
  cut_start i lt = cut_point (tail (strips_cut M s c bs m) (get_or bs i 0)) ∙ ap (point_of M) (cut_tail M above s c bs w m (get_or bs i 0) (on.half_there M above s c bs w i lt))

  cut_copy : (i : ℕ) → i < m → raise_copy (strips_cut M s c bs m) c bs i ≡ raise_copy M c bs i
  cut_copy i lt = ap (raised_at c bs i) (cut_start i lt)

  -- so the operators are the same, read off either model
  pub cut_copies : (i : ℕ) → i ≤ m → copy_ops (strips_cut M s c bs m) c bs i ≡ copy_ops M c bs i
  cut_copies zero le = refl
  cut_copies (suc i) le = λ j. cut_copies i (omega (arith, le)) j ++ cut_copy i (omega (arith, le)) j ∷ []

  -- ---- with the first i copies

  module _ (i : ℕ) (le : i ≤ m) where
    abbrev C : Model
    C = copies_raised M above s c bs i

    sound : Sound C
    sound = part_sound M above s c bs w i le

    there : (j : ℕ) → j < m → HasHalf C (get_or bs j 0)
    there j lt = old_half M above s c bs w i sound (get_or bs j 0) (on.half_there M above s c bs w j lt)

    -- a half below starts where it did
    tail_kept : (j : ℕ) → j < m → tail C (get_or bs j 0) ≡ tail M (get_or bs j 0)
    tail_kept j lt = let b : ℕ = get_or bs j 0 in
        old_tail M above s c bs w i sound b (on.half_there M above s c bs w j lt)
        ∙ ap (λ t. cond (t && not (lists (map mate bs) b)) (renamed (copied M c bs i) (tail M b)) (tail M b)) (w.cycle.halves b (on.half_in M above s c bs w j lt)).below

    -- and a vertex that was there stays at its point
    point_kept : (v : ℕ) → v ≤ c.vertex → point_of C v ≡ point_of M v
    unfolding point_of
    point_kept v low = ap (λ o. unwrap_or o no_point) (ap (λ t. table.get t v) (raised_vertices M above s c bs w i sound) ∙ copied_other M M.vertices (map (tail M) bs) (numbers_after c.vertex i) v none) where
      none : count v (numbers_after c.vertex i) ≡ 0
      none = elim (IsIn_or_not v (numbers_after c.vertex i)) [
        | inl at ↦ absurd (omega (arith, low, (in_numbers c.vertex i v at).0))
        | inr z ↦ z
      ]

    start_kept : (j : ℕ) → j < m → start_in C j ≡ start_in M j
    start_kept j lt = ap (point_of C) (tail_kept j lt) ∙ point_kept (tail M (get_or bs j 0)) (on.low_vertex M above s c bs w (get_or bs j 0) (on.half_there M above s c bs w j lt))

    kept_copy : (j : ℕ) → j < m → raise_copy C c bs j ≡ raise_copy M c bs j
    kept_copy j lt = ap (raised_at c bs j) (start_kept j lt)

-- ---- as the code goes on, from the model with all strips cut off

module _ (N : Model) (s : ℕ) (c : Taken) (bs : List ℕ) (r : AreStripped N s c bs) where
  abbrev M : Model
  M = r.before

  -- the operators, read off the model before
  pub read_before : (i : ℕ) → i ≤ length bs → copy_ops N c bs i ≡ copy_ops M c bs i
  read_before i le = ap (λ Y. copy_ops Y c bs i) r.model ∙ cut_copies M r.above s c bs r.can i le

  -- the model with the first i copies
  pub raised_so_far : (i : ℕ) → i ≤ length bs → effects N (copy_ops N c bs i) ≡ copies_raised M r.above s c bs i
  raised_so_far i le = (λ j. effects (r.model j) (read_before i le j)) ∙ (copies_lead M r.above s c bs r.can i le).made

  module _ (i : ℕ) (lt : i < length bs) (X : Model) (x : X ≡ effects N (copy_ops N c bs i)) where
    within_length : i ≤ length bs
    within_length = omega (arith, lt)

    is_raised : X ≡ copies_raised M r.above s c bs i
    is_raised = x ∙ raised_so_far i within_length

    -- the next half is there
    pub half_there : HasHalf X (get_or bs i 0)
    half_there = subst (λ Y. HasHalf Y (get_or bs i 0)) (sym is_raised) (there M r.above s c bs r.can i within_length i lt)

    op_is : raise_copy X c bs i ≡ raise_copy M c bs i
    op_is = ap (λ Y. raise_copy Y c bs i) is_raised ∙ kept_copy M r.above s c bs r.can i within_length i lt

    -- its copy can be raised
    pub copy_goes : first_false X (raise_copy X c bs i) ≡ None
    copy_goes = (λ j. first_false (is_raised j) (op_is j)) ∙ copy_accepted M r.above s c bs r.can i lt (part_sound M r.above s c bs r.can i within_length)

    -- and then one more is
    pub one_raised : copy_ops N c bs i ++ raise_copy X c bs i ∷ [] ≡ copy_ops N c bs (i + 1)
    one_raised =
        ap (λ (o : Op). copy_ops N c bs i ++ o ∷ []) (op_is ∙ sym (cut_copy M r.above s c bs r.can i lt) ∙ ap (λ Y. raise_copy Y c bs i) (sym r.model))
        ∙ ap (copy_ops N c bs) (one_on i)
