use Rattle.script_reader.proofs.Prelude.{ap, subst, sym, arith, rules, ◌≡◌, ◌+◌, ◌-◌, ℕ, List, take, drop, length, length-take, length-drop, Holding, FirstNewline}
use Rattle.script_reader.proofs.NewlineLaws.{read_more, still_found, goes_on}
use Rattle.script_reader.proofs.buffer.Buffer.read_from.Goals as goal

pub invariant_of-self : goal.invariant_of-self
invariant_of-self g c =
    let i = c.self.invariant in
    let b = c.self.inside in (
      still_found b.bytes.items c.deref_mut.result.now c.shift.new.bytes c.deref_mut-2.result.now c.read_at.new.bytes b.bytes.len b.start b.newline b.end (omega arith)
          c.deref_mut.ensures.value c.shift.ensures c.deref_mut-2.ensures.value (search rules) c.read_at.ensures.front (search rules) i.0,
      omega arith,
      omega arith,
      omega arith,
      i.4,
    )

pub invariant_of-self-2 : goal.invariant_of-self-2
invariant_of-self-2 g c =
    let i = c.self.invariant in
    let b = c.self.inside in
    let found = i.0 in
    let same : length c.read_at.new.bytes ≡ b.bytes.len = search rules in
    let before = still_found b.bytes.items c.deref_mut.result.now c.shift.new.bytes c.deref_mut-2.result.now c.read_at.new.bytes b.bytes.len b.start b.newline b.end (omega arith)
    c.deref_mut.ensures.value c.shift.ensures c.deref_mut-2.ensures.value (search rules) c.read_at.ensures.front (search rules) found in (
      goes_on _ 0 (b.newline - b.start) (b.end - b.start + c.in_ok-n.n) c.first_newline-self-inside.result (omega arith) before.before
          (subst (λ (xs : List ℕ). FirstNewline xs (b.newline - b.start) (b.end - b.start + c.in_ok-n.n) c.first_newline-self-inside.result) c.deref.ensures.value c.first_newline-self-inside.ensures),
      omega (arith, c.in_ok-n.ensures.ok.1, same, i.4),
      omega arith,
      omega arith,
      i.4,
    )

pub returns : goal.returns
returns g c =
    let b = c.self.inside in
    let end = b.end - b.start in
    let n = c.in_ok-n.n in
    let ok = c.in_ok-n.ensures.ok in
    let count : length (take n (drop end c.read_at.new.bytes)) ≡ n = simp (length-take, length-drop) (omega (arith, ok.1)) in (
      take n (drop end c.read_at.new.bytes),
      ok.2,
      read_more c.args.self.now.unread b.bytes.items c.deref_mut.result.now c.shift.new.bytes c.deref_mut-2.result.now c.read_at.new.bytes b.bytes.len b.start b.end n
          (ap (λ (h : Holding). h.unread) (sym c.self.view_is)) c.deref_mut.ensures.value c.shift.ensures c.deref_mut-2.ensures.value (search rules) c.read_at.ensures.front (search rules),
      count,
      ok.0,
      ok.3,
    )
