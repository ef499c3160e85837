use Rattle.lattice.proofs.Magnitudes.{coordinates, packed_is}
use Rattle.lattice.proofs.packed.PackedPoint.new.Goals as goal

pub returns : goal.returns
returns c =
    let ks = coordinates c.args.p c.requires in
    λ i. record { x = packed_is c.args.p.x ks.0 i; y = packed_is c.args.p.y ks.1 i; z = packed_is c.args.p.z ks.2 i }
