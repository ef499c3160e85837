-- All copies raised, one after the other.
use Rattle.split_opening_laws.proofs.Prelude.{◌≡◌, ℕ, ◌≤◌, List, [], length, sym, ap, ◌∙◌, arith, map, refl, le-ltb, mate, plus, minus, Table, Model, LoopRow, Sound, map_same, effects, AreAccepted, Leads, leads_one, leads_sound, Taken, rewritten_row, renamed, opened_tail, opened_row, with_copies, with_rows, put_out, strip_face, strip_row, copied, raised_loop, raised_edge, strips_cut, copies_raised, raise_copy, copy_ops, CanBeOpened}
use Rattle.euler_operators.specs.Table as table
use Rattle.split_opening_laws.proofs.sections.Numbered.{rows_same}
use Rattle.split_opening_laws.proofs.strips.Copied as copy
use Rattle.split_opening_laws.proofs.copies.Copies.{copy_accepted, copy_is}
use Rattle.split_opening_laws.proofs.strips.Whole.{cut_sound, all_lead}

module _ (M : Model) (above : List ℕ) (s : ℕ) (c : Taken) (bs : List ℕ) (w : CanBeOpened M above s c bs) where
  abbrev base : Table LoopRow
  base = table.map_rows (rewritten_row (map (renamed (put_out c bs (length bs))))) M.loops

  -- a strip without risers
  bare_strip : (j : ℕ) → strip_row c bs j ≡ raised_loop c bs 0 j
  bare_strip j = grind (arith, le-ltb)

  tail_stays : (h v : ℕ) → opened_tail M above (map mate bs) [] h v ≡ v
  tail_stays h v = grind arith

  edges_stay : table.map_rows (opened_row M above (map mate bs) []) M.edges ≡ M.edges
  edges_stay = map_same (opened_row M above (map mate bs) []) M.edges (λ e row at. λ n. record { plus_tail = tail_stays (plus e) row.plus_tail n; minus_tail = tail_stays (minus e) row.minus_tail n })

  none_raised : strips_cut M s c bs (length bs) ≡ copies_raised M above s c bs 0
  unfolding strips_cut copies_raised
  none_raised =
      let copies : copied M c bs 0 ≡ [] = copy.none_copied M above s c bs w in
      λ n. record M {
        faces = with_rows M.faces c.face (strip_face s c) (length bs);
        loops = rows_same base c.loop (strip_row c bs) (raised_loop c bs 0) (length bs) (λ j lt. bare_strip j) n;
        edges = (ap (λ t. with_rows t c.edge (raised_edge M bs []) (length bs)) (sym edges_stay)
            ∙ ap (λ ps. with_rows (table.map_rows (opened_row M above (map mate bs) ps) M.edges) c.edge (raised_edge M bs ps) (length bs)) (sym copies)) n;
        vertices = ap (with_copies M) (sym copies) n;
      }

  -- the first i copies
  pub copies_lead : (i : ℕ) → i ≤ length bs → Leads (strips_cut M s c bs (length bs)) (copies_raised M above s c bs i) (copy_ops M c bs i)
  copies_lead = all_lead (copies_raised M above s c bs) (copy_ops M c bs) (raise_copy M c bs) (length bs) (λ i. refl)
      (λ i lt sound. leads_one _ _ _ (copy_accepted M above s c bs w i lt sound) (copy_is M above s c bs w i lt sound))
      (strips_cut M s c bs (length bs)) (cut_sound M above s c bs w) (record { accepted = tt; made = none_raised })

  pub part_sound : (i : ℕ) → i ≤ length bs → Sound (copies_raised M above s c bs i)
  part_sound i le = leads_sound (strips_cut M s c bs (length bs)) (copies_raised M above s c bs i) (copy_ops M c bs i) (cut_sound M above s c bs w) (copies_lead i le)

  -- no operator is refused, and they raise all copies
  pub copies_accepted : AreAccepted (strips_cut M s c bs (length bs)) (copy_ops M c bs (length bs))
  copies_accepted = (copies_lead (length bs) (omega arith)).accepted

  pub copies_are_raised : effects (strips_cut M s c bs (length bs)) (copy_ops M c bs (length bs)) ≡ copies_raised M above s c bs (length bs)
  copies_are_raised = (copies_lead (length bs) (omega arith)).made

  pub raised_sound : Sound (copies_raised M above s c bs (length bs))
  raised_sound = part_sound (length bs) (omega arith)
