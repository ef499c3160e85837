use Rattle.euler_conditions.proofs.Prelude.{◌<◌, length, ap, ◌∙◌, arith, lists, listed_at}
use Rattle.euler_conditions.proofs.parts.faces_in.Goals as goal

pub solid_of-requires : goal.solid_of-requires
solid_of-requires c =
    let fs = c.args.faces.now in let inside : c.faces.i < length fs = omega arith in
    c.requires c.get-face.result (ap (lists fs) c.get-face.ensures ∙ listed_at fs c.faces.i inside)
