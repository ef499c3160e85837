-- Where a half-edge and its mate stand.
use Rattle.low_euler.proofs.Prelude.{ℕ, List, mate, loop_of, cycle_of, tail, before, Store}

-- a half-edge and its mate, their loops, what these hold, the vertices at which they start, and what stands before the half-edge
abbrev pub Spots : Type 0
Spots = record { h : ℕ; m : ℕ; r : ℕ; l : ℕ; xs : List ℕ; ys : List ℕ; u : ℕ; w : ℕ; p : ℕ }

abbrev pub spots : Store → ℕ → Spots
spots s h =
    let M = s.model in let m = mate h in
    record { h = h; m = m; r = loop_of M h; l = loop_of M m; xs = cycle_of M h; ys = cycle_of M m; u = tail M h; w = tail M m; p = before M h }
