-- What the walks of a block share. Assumes `Logic`.
--     slot_emptied, emptied      what places held is forgotten, and their room is left
--     no_places, none_lent       nowhere there is no place
use Rattle.raw_cells.proofs.Prelude.{◌≡◌, ℕ, ◌+◌, ◌<◌, List, [], ◌∷◌, ◌++◌, length, replicate, Some, None, refl, subst, arith, El, R, elτ, slot, slots, sz, Place, mark, value_out, places_own, places_lent}
use seplogic.Ra.Ura.{Ura}
use base.Fraction.{full_share}
use base.Fml.{Lft, fat, froom}
use base.Logic.{ent, emp, never, id⊢}
use mir.Val.{Val, vstruct, vnil, of_list}
use types.Logic.{Logic, sem}
use types.Kit.{Item, Goal, Seq, ‵, some, given, ◌⊛◌, ◌$◌, ◌∵◌, !, qed, by, move, drop, use1, pick, learn, split, frame, fsplit, fpick, feq_l}
use denote.RattleType.{RattleType}
use denote.RawPtr.{null_ptr}
use denote.Shadow.{makes_shadow}
use denote.Struct.Struct.{Struct}
use denote.Struct.Owning.{shape}
use Rattle.std.proofs.RcSteps.{Good}
use Rattle.raw_cells.specs.contracts.block.Places as places
use Rattle.raw_cells.specs.contracts.block.Base as base_type

module _ (E : El) where
  abbrev pub Pl : RattleType
  Pl = places.the_row (R E)

  abbrev pub Bs : RattleType
  Bs = base_type.the_row (R E)

  -- the one field of `Places`, which takes no bytes
  abbrev pub Mark : RattleType
  Mark = Struct (shape (places.the_type (R E)))

pub mark_made : (E : El) {M : Type 1} {𝓤 : Ura M} (𝓛 : Logic 𝓤) → ent 𝓤 (emp 𝓤) (sem 𝓛 ((Mark E).own_val (tt, tt) (mark ∷ [])))
mark_made E 𝓛 = makes_shadow 𝓛 ((Mark E).own_val (tt, tt) (mark ∷ [])) (λ vss. (tt, ((λ uss. (tt, tt)), tt))) ((vstruct vnil ∷ [], tt), (refl, ((tt, (refl, tt)), tt)))

module _ {M : Type 1} {𝓤 : Ura M} {𝓛 : Logic 𝓤} {K : Type 0} {Γ : List (Item 𝓤)} {G : Goal 𝓤 𝓛.H} where
  pub mark_had : K → (E : El) (vs : List Val) → (vs ≡ mark ∷ [] → Seq K 𝓛 Γ G) → Seq K 𝓛 (‵ ((Mark E).own_val (tt, tt) vs) ∷ Γ) G
  mark_had t E vs k = fpick t (λ vss. fsplit t $ feq_l t (λ ev. fsplit t $ fpick t (λ uss. fsplit t $ feq_l t (λ e. drop t $ drop t $
      k (subst (λ (ws : List Val). vs ≡ vstruct (of_list (ws ++ [])) ∷ []) e ev)))))

module _ (E : El) {M : Type 1} {𝓤 : Ura M} (𝓛 : Logic 𝓤) where
  pub no_places : (cs : List (Place E)) (i : ℕ) → i < length cs → ent 𝓤 (sem 𝓛 (places_own (R E) null_ptr cs)) (never 𝓤)
  no_places [] i lt = absurd (omega arith)
  no_places (c ∷ cs) i lt = id⊢ 𝓤 (never 𝓤)

  pub none_lent : (κ : Lft) (cs : List (Place E)) (i : ℕ) → i < length cs → ent 𝓤 (sem 𝓛 (places_lent (R E) null_ptr cs κ)) (never 𝓤)
  none_lent κ [] i lt = absurd (omega arith)
  none_lent κ (c ∷ cs) i lt = id⊢ 𝓤 (never 𝓤)

  module _ (b : ℕ) where
    pub slot_emptied : (c : Place E) (o : ℕ) → ent 𝓤 (sem 𝓛 (slot (R E) b o c)) (sem 𝓛 (slot (R E) b o None))
    slot_emptied None o = id⊢ 𝓤 (sem 𝓛 (slot (R E) b o None))
    slot_emptied (Some x) o =
        qed 𝓛 (‵ (slot (R E) b o (Some x)) ∷ []) ∵
        use1 𝓛 (some (λ (v : Val). given (Good (elτ E) v) (‵ (fat full_share (elτ E) b o v) ⊛ ‵ (E.row.own_val x (v ∷ []))))) (value_out 0 E.row E.laws 𝓛 x b o) $
        pick ! (λ v. learn ! (λ good. split ! $ move ! (1 ∷ []) $ drop ! $
        use1 𝓛 (‵ (froom (elτ E) b o)) (𝓛.laws.at_room (elτ E) b o v) $ by ! (𝓛.laws.room-raw (elτ E) b o)))

    pub emptied : (cs : List (Place E)) (o : ℕ) → ent 𝓤 (sem 𝓛 (slots (R E) b o cs)) (sem 𝓛 (slots (R E) b o (replicate (length cs) None)))
    emptied [] o = id⊢ 𝓤 (emp 𝓤)
    emptied (c ∷ cs) o =
        qed 𝓛 (‵ (slot (R E) b o c) ∷ ‵ (slots (R E) b (o + sz E) cs) ∷ []) ∵
        use1 𝓛 (‵ (slot (R E) b o None)) (slot_emptied c o) $ frame ! $ by ! (emptied cs (o + sz E))
