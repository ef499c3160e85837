-- All strips cut off, one after the other.
use Rattle.split_opening_laws.proofs.Prelude.{◌≡◌, ℕ, zero, suc, ◌≤◌, List, [], ◌∷◌, length, sym, ap, ◌∙◌, subst, arith, map, ◌<◌, ◌++◌, refl, mate, Model, Sound, map_same, effects, AreAccepted, Leads, leads_one, leads_on, leads_sound, Taken, rewritten_row, renamed, row_unrenamed, strips_cut, cut_strip, strip_ops, CanBeOpened}
use Rattle.euler_operators.specs.Table as table
use Rattle.euler_operators.specs.declared.Op.{Op}
use Rattle.split_opening_laws.proofs.sections.Numbered.{both_none}
use Rattle.split_opening_laws.proofs.strips.Strip.{strip_accepted, strip_is}

-- loops are not changed by no renaming
pub none_renamed : (M : Model) → Sound M → table.map_rows (rewritten_row (map (renamed []))) M.loops ≡ M.loops
none_renamed M sound = map_same (rewritten_row (map (renamed []))) M.loops (row_unrenamed M sound)

-- operators one after the other, of which each leads from one of some models to the next
module _ (part : ℕ → Model) (ops : ℕ → List Op) (op : ℕ → Op) (n : ℕ) (more : (i : ℕ) → ops (suc i) ≡ ops i ++ op i ∷ [])
    (next : (i : ℕ) → i < n → Sound (part i) → Leads (part i) (part (suc i)) (op i ∷ [])) where
  pub all_lead : (M : Model) → Sound M → Leads M (part 0) (ops 0) → (i : ℕ) → i ≤ n → Leads M (part i) (ops i)
  all_lead M sound none zero le = none
  all_lead M sound none (suc i) le =
      let r = all_lead M sound none i (omega arith) in
      subst (Leads M (part (suc i))) (sym (more i)) (leads_on M (part i) (part (suc i)) (ops i) (op i ∷ []) r (next i (omega arith) (leads_sound M (part i) (ops i) sound r)))

module _ (M : Model) (above : List ℕ) (s : ℕ) (c : Taken) (bs : List ℕ) (w : CanBeOpened M above s c bs) where
  none_cut : M ≡ strips_cut M s c bs 0
  unfolding strips_cut
  none_cut = λ n. record M { loops = (sym (ap (λ ps. table.map_rows (rewritten_row (map (renamed ps))) M.loops) (both_none (map mate bs)) ∙ none_renamed M w.sound)) n }

  -- the first i strips
  pub strips_lead : (i : ℕ) → i ≤ length bs → Leads M (strips_cut M s c bs i) (strip_ops M s c bs i)
  strips_lead = all_lead (strips_cut M s c bs) (strip_ops M s c bs) (λ i. cut_strip (strips_cut M s c bs i) c bs i) (length bs) (λ i. refl)
      (λ i lt sound. leads_one _ _ _ (strip_accepted M above s c bs w i lt sound) (strip_is M above s c bs w i lt sound)) M w.sound (record { accepted = tt; made = none_cut })

  pub part_sound : (i : ℕ) → i ≤ length bs → Sound (strips_cut M s c bs i)
  part_sound i le = leads_sound M (strips_cut M s c bs i) (strip_ops M s c bs i) w.sound (strips_lead i le)

  -- no operator is refused, and they cut all strips off
  pub strips_accepted : AreAccepted M (strip_ops M s c bs (length bs))
  strips_accepted = (strips_lead (length bs) (omega arith)).accepted

  pub strips_are_cut : effects M (strip_ops M s c bs (length bs)) ≡ strips_cut M s c bs (length bs)
  strips_are_cut = (strips_lead (length bs) (omega arith)).made

  pub cut_sound : Sound (strips_cut M s c bs (length bs))
  cut_sound = part_sound (length bs) (omega arith)
