-- Before two faces are glued: the first item of the one, and the half-edge of the other that starts where it does. And what opens
-- the seam.
use Rattle.gluing.proofs.Prelude.{◌≡◌, ◌≢◌, ℕ, ◌≤◌, Bool, true, false, List, [], ◌∷◌, ◌++◌, refl, sym, ap, ◌∙◌, subst, arith, None, unwrap_or, Point, same_point, IsIn, head_or, last_or, Model, items_of, content, outer, point_of, Sound, Has, is_lone, last_or_push, IsIn_last, number_fits, half_number, Op, effects, AreAccepted, effects_keep_sound, start, finish, first_such, rim, partner, glue_refusal, fresh_edge, opening, closings, glue_ops, glued_part, DraftJournal, after_steps, steps_make, Facing, same_is, item_at}
use Rattle.shapes.proofs.glue.Facing as facing
use Rattle.shapes.proofs.glue.Facts as facts
use Rattle.gluing_laws.proofs.glue.Opening.{opening_accepted, opening_is}
use Rattle.gluing.proofs.Joined.{Joining, Halfway}

-- a number that a search finds passes its test
such_passes : (test : ℕ → Bool) (ns : List ℕ) → unwrap_or (first_such test ns) 0 ≢ 0 → test (unwrap_or (first_such test ns) 0) ≡ true
such_passes test [] some = absurd (some refl)
such_passes test (n ∷ ns) some = grind (arith, some, such_passes test ns)

module _ (M : Model) (f g : ℕ) (sound : Sound M) (accepted : glue_refusal M f g ≡ None) where
  abbrev hs : List ℕ
  hs = rim M f

  abbrev p : ℕ → ℕ
  p = partner M (rim M g)

  rims_meet : Facing M f g p hs (fresh_edge M)
  rims_meet = facts.facing M f g sound accepted

  pub first_there : Has M.faces f
  first_there = rims_meet.f_there

  pub second_there : Has M.faces g
  second_there = rims_meet.g_there

  pub edge_left : fresh_edge M ≤ 1000000
  edge_left = number_fits (fresh_edge M) rims_meet.edge_fits

  pub first_held : is_lone (content M (outer M f)) ≡ false
  first_held = ap is_lone (facing.content_f M f g p hs (fresh_edge M) rims_meet)

  shape : (h : ℕ) × (mid : List ℕ) × (last : ℕ) × (hs ≡ h ∷ (mid ++ last ∷ []))
  shape = facts.shape M f g sound accepted

  abbrev last : ℕ
  last = last_or 0 hs

  last_there : IsIn last hs
  last_there = subst (λ q. IsIn (last_or 0 q) q) (sym shape.3) (IsIn_last shape.0 (shape.1 ++ shape.2 ∷ []))

  last_is : last ≡ shape.2
  last_is = ap (last_or 0) shape.3 ∙ last_or_push shape.0 shape.2 shape.1

  -- the last item ends where the first one starts
  ends : start M (head_or 0 hs) ≡ finish M last
  ends = ap (λ q. start M (head_or 0 q)) shape.3 ∙ ap (point_of M) (facing.meets_round M f g p hs (fresh_edge M) rims_meet shape.0 shape.1 shape.2 shape.3) ∙ ap (finish M) (sym last_is)

  partner_in : IsIn (p last) (rim M g)
  partner_in = subst (IsIn (p last)) (sym (ap items_of (facing.content_g M f g p hs (fresh_edge M) rims_meet))) (facing.partner_in M f g p hs (fresh_edge M) rims_meet last last_there)

  partner_starts : start M (p last) ≡ finish M last
  partner_starts = same_is (start M (p last)) (finish M last)
      (such_passes (λ k. same_point (start M k) (finish M last)) (rim M g) (half_number M sound (p last) (facing.half_g M f g p hs (fresh_edge M) rims_meet last last_there)))

  module _ (point : Point) (at : point ≡ start M (head_or 0 hs)) where
    -- the partner of the last item starts there
    pub across_is : item_at M g point ≡ p last
    across_is = ap (item_at M g) (at ∙ ends)

    pub across_in : IsIn (item_at M g point) (rim M g)
    across_in = subst (λ k. IsIn k (rim M g)) (sym across_is) partner_in

    pub across_starts : start M (item_at M g point) ≡ point
    across_starts = ap (start M) across_is ∙ partner_starts ∙ sym (at ∙ ends)

  -- ---- as the seam is opened

  abbrev all : List ℕ
  all = shape.0 ∷ (shape.1 ++ shape.2 ∷ [])

  abbrev first_ops : ℕ → ℕ → List Op
  first_ops h k = opening M f g h (p k) (fresh_edge M)

  w_all : Facing M f g p all (fresh_edge M)
  w_all = subst (λ q. Facing M f g p q (fresh_edge M)) shape.3 rims_meet

  goes : AreAccepted M (first_ops shape.0 shape.2)
  goes = opening_accepted M f g p shape.0 shape.1 shape.2 (fresh_edge M) w_all

  makes : effects M (first_ops shape.0 shape.2) ≡ glued_part M f g p shape.2 [] all
  makes = opening_is M f g p shape.0 shape.1 shape.2 (fresh_edge M) w_all

  made : effects M (first_ops shape.0 shape.2) ≡ glued_part M f g p (last_or shape.0 (shape.1 ++ shape.2 ∷ [])) [] all
  made = makes ∙ ap (λ n. glued_part M f g p n [] all) (sym (last_or_push shape.0 shape.2 shape.1))

  begins : (N : Model) → N ≡ effects M (first_ops shape.0 shape.2) → Joining M f g N shape.0
  begins N is = record {
    done = [];
    later = shape.1 ++ shape.2 ∷ [];
    stage = record {
      facing = rims_meet;
      split = shape.3;
      last_in = IsIn_last shape.0 (shape.1 ++ shape.2 ∷ []);
      sound = subst Sound made (effects_keep_sound M (first_ops shape.0 shape.2) sound goes);
    };
    model = is ∙ made;
  }

  all_ops : first_ops shape.0 shape.2 ++ closings p (fresh_edge M) g (outer M g) all ≡ glue_ops M f g
  unfolding glue_ops
  all_ops = sym (λ i. opening M f g (head_or 0 (shape.3 i)) (p (last_is i)) (fresh_edge M) ++ closings p (fresh_edge M) g (outer M g) (shape.3 i))

  module _ (h k e : ℕ) (first : h ≡ head_or 0 hs) (across : k ≡ p last) (edge : e ≡ fresh_edge M) where
    h_is : h ≡ shape.0
    h_is = first ∙ ap (head_or 0) shape.3

    ops_are : opening M f g h k e ≡ first_ops shape.0 shape.2
    ops_are = λ i. opening M f g (h_is i) ((across ∙ ap p last_is) i) (edge i)

    -- no operator of the opening is refused
    pub opening_goes : AreAccepted M (opening M f g h k e)
    opening_goes = subst (AreAccepted M) (sym ops_are) goes

-- and then all items are left
pub opening_makes : (old : DraftJournal) (f g : ℕ) (sound : Sound old.model) (accepted : glue_refusal old.model f g ≡ None) (h k e : ℕ) (first : h ≡ head_or 0 (rim old.model f))
    (across : k ≡ partner old.model (rim old.model g) (last_or 0 (rim old.model f))) (edge : e ≡ fresh_edge old.model) (new : DraftJournal) → new ≡ after_steps old (opening old.model f g h k e) → Halfway old new f g h
unfolding begins
opening_makes old f g sound accepted h k e first across edge new made =
    let taken = first_ops old.model f g sound accepted (shape old.model f g sound accepted).0 (shape old.model f g sound accepted).2 in
    let steps : new ≡ after_steps old taken = made ∙ ap (after_steps old) (ops_are old.model f g sound accepted h k e first across edge) in
    subst (Halfway old new f g) (sym (h_is old.model f g sound accepted h k e first across edge)) (record {
      joining = begins old.model f g sound accepted new.model (steps_make old new taken steps);
      taken = taken;
      steps = steps;
      left = all_ops old.model f g sound accepted;
    })
