-- What lies with C, in a handle's words. Assumes `Logic`.
use Rattle.session_slots.proofs.Prelude.{◌≡◌, [], ◌∷◌, refl, IsSome, Option, Some, None, token}
use Rattle.session_slots.proofs.Walking.{Logic, sem, ‵, ◌$◌, ◌∵◌, !, qed, move, fsplit, fjoin, fpick, fpack, done}
use Rattle.session_slots.proofs.Pointers.{Ura, ent, Fml, bare, impl, tnil, dnil, RattleType, lone, Ptr, Al, Global, Z, LZ, ghosts, dict, box_owns}
use Rattle.session_slots.proofs.Values as values

abbrev pub heap : Al
heap = record { row = Z; laws = LZ; g = ghosts; d = dict; drops = impl [] tnil dnil }

module _ (R : RattleType) where
  abbrev pub Own : Ptr → R.Denot → Fml
  Own p x = box_owns token R p x

  abbrev pub Lr : RattleType
  Lr = values.Loose R Z LZ ghosts

  module _ {M : Type 1} {𝓤 : Ura M} (𝓛 : Logic 𝓤) (alloc : Global) (p : Ptr) (x : R.Denot) where
    abbrev pub Boxed : Fml
    Boxed = box_owns (ghosts.dealloc_token alloc) R p x

    -- what a box owns is owned with the right to free it, whatever the handle to the heap
    pub own_in : ent 𝓤 (sem 𝓛 Boxed) (sem 𝓛 (Own p x))
    own_in = qed 𝓛 (‵ Boxed ∷ []) ∵ fsplit ! $ move ! (1 ∷ []) $ fpack ! Global (λ h. ghosts.dealloc_token h (bare (lone R.mir)) p) alloc $ move ! (1 ∷ 0 ∷ []) $ fjoin ! $ done !

    pub own_out : ent 𝓤 (sem 𝓛 (Own p x)) (sem 𝓛 Boxed)
    own_out = qed 𝓛 (‵ (Own p x) ∷ []) ∵ fsplit ! $ move ! (1 ∷ []) $ fpick ! (λ h. move ! (1 ∷ 0 ∷ []) $ fjoin ! $ done !)

pub some_of : {X : Type 0} (o : Option X) → IsSome o → (x : X) × (o ≡ Some x)
some_of (Some x) h = (x, refl)
some_of None h = cc
