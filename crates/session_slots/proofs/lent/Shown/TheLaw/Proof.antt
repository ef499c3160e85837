-- A `&` to what is lent is made of its share of the token. Assumes `Logic`.
use Rattle.session_slots.proofs.Pointers.{copy_shared, RawPtr-field, RawPtr-copy, of_Lends, lent_at, lent_at_shr_laws, R}
use Rattle.session_slots.proofs.slot.Slot.TheLaws.{the_row_laws as L}
use Rattle.session_slots.proofs.lent.Shown.TheLaw.Statement.{statement}
use Rattle.session_slots.proofs.Loans.{Lends-loan}
use Rattle.session_slots.specs.contracts.lent.Shown as C

pub shares : statement
shares =
    of_Lends C.struct C.the_codes C.the_heap C.the_lent (λ d p. lent_at_shr_laws R L.shr_laws d.at d.loan.0) (copy_shared RawPtr-field RawPtr-copy, tt)
    (λ M 𝓤 𝓛 d p. Lends-loan 𝓛 (lent_at R d.at d.loan.0) (lent_at_shr_laws R L.shr_laws d.at d.loan.0) d.loan.1.0 d.loan.1.1 C.the_row.lives)
