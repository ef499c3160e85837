-- The lamina of a block's base: its first face has one loop, of four half-edges, and these are ready to be swept.
use Rattle.sweeps.proofs.Prelude.{◌≡◌, ℕ, ◌+◌, List, [], ◌∷◌, None, refl, sym, ap, subst, ◌∙◌, arith, map, append-nil, Point, plus, Model, FaceRow, LoopRow, content, items_of, outer, rings_of, Sound, content_row, outer_row, Taken, taken_in, numbers_after, lamina_at, prism_refusal, loop_ops, sweep_ops, Ready, turn_ready, greatest-with_path, greatest-with_points, CanRise, with_lamina}
use Rattle.shapes.proofs.Common.{greatest-put_last}
use Rattle.sweeps_laws.proofs.swept.Bounds.{taken_free}
use Rattle.sweeps_laws.proofs.LaminaRows as rows
use Rattle.sweeps.proofs.RaisedLoops as raised

module _ (M : Model) (sound : Sound M) (s : ℕ) (a b g h : Point) where
  abbrev c : Taken
  c = taken_in M

  abbrev pub base : Model
  base = lamina_at M c s (a ∷ b ∷ g ∷ h ∷ [])

  abbrev first_face : FaceRow
  first_face = rows.first_face M c s (a ∷ b ∷ g ∷ h ∷ [])

  abbrev items : List ℕ
  items = map plus (numbers_after c.edge 4)

  abbrev first_loop : LoopRow
  first_loop = rows.first_loop M c s (a ∷ b ∷ g ∷ h ∷ [])

  outer_is : outer base (c.face + 1) ≡ c.loop + 1
  outer_is = outer_row base (c.face + 1) first_face (rows.face_one M c s (a ∷ b ∷ g ∷ h ∷ []))

  items_are : items_of (content base (c.loop + 1)) ≡ items
  items_are = ap items_of (content_row base (c.loop + 1) first_loop (rows.loop_one M c s (a ∷ b ∷ g ∷ h ∷ [])))

  taken_is : taken_in base ≡ with_lamina c 4
  unfolding taken_in
  taken_is = grind (arith, greatest-put_last, greatest-with_path, greatest-with_points)

  module _ (N : Model) (is : N ≡ base) (same : Sound N) (d : Point) (e : prism_refusal N (c.face + 1) d ≡ None) (hs : List ℕ) (holds : hs ≡ items) (k : Taken) (counted : k ≡ with_lamina c 4) where
    taken : k ≡ taken_in N
    taken = counted ∙ sym taken_is ∙ ap taken_in (sym is)

    loop_is : c.loop + 1 ≡ outer N (c.face + 1)
    loop_is = sym outer_is ∙ ap (λ X. outer X (c.face + 1)) (sym is)

    rings_are : [] ≡ rings_of N (c.face + 1)
    rings_are = sym (rows.rings_one M c s (a ∷ b ∷ g ∷ h ∷ []) (taken_free M sound)) ∙ ap (λ X. rings_of X (c.face + 1)) (sym is)

    held : items_of (content N (c.loop + 1)) ≡ hs
    held = ap (λ X. items_of (content X (c.loop + 1))) is ∙ items_are ∙ sym holds

    pub base_rises : CanRise N k d hs
    base_rises = record {
      face = _;
      loop_number = c.loop + 1;
      ready = subst (Ready N k _ (c.loop + 1) d) held (turn_ready N N k (c.face + 1) (c.loop + 1) d [] (raised.all_going N N refl same (c.face + 1) d e k taken (c.loop + 1) loop_is [] rings_are));
    }

    pub base_ops : loop_ops N k d hs ≡ sweep_ops N (c.face + 1) d
    base_ops =
        ap (loop_ops N k d) (sym held) ∙ sym (append-nil (loop_ops N k d (items_of (content N (c.loop + 1)))))
        ∙ raised.all_ops N N refl same (c.face + 1) d e k taken (c.loop + 1) loop_is [] rings_are
