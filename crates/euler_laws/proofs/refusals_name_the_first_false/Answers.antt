use Rattle.euler_laws.proofs.shared.Goes.{all_hold, none_refuses, first_is_named, named_is_first}
use Rattle.euler_laws.proofs.refusals_name_the_first_false.Goals as goal

pub returns : goal.returns
returns c = record { nothing = λ cs. (all_hold cs, none_refuses cs); first = λ cs r. (first_is_named cs r, named_is_first cs r) }
