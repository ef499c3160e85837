-- What the words at one place say, and what is wrong with them.
use Rattle.script_reader.proofs.Prelude.{◌≡◌, inl, inr, ℕ, zero, suc, ◌≤◌, List, [], ◌∷◌, length, Option, Some, None, Result, Ok, Err, refl, sym, ap, subst, arith, ℤ, Point, integer_of, Word, Kind, Number, Integer, Half, AnyCorner, Place, Places, InOrOut, Meaning, ◌>>=◌, said, next_of, point_of, points_of, read, Fault, BadWord, BadNumber, SaysInteger, Begins, BeginsPlace, ArePoints, Means, FailsWord, FailsPlace, FailsPoints, Fails}
use Rattle.script_reader.proofs.OptionLaws.{some_or_none, bind_ok, bind_err}
use Rattle.script_reader.proofs.SayingLaws.{Tells, tells_number, tells_integer, tells_half, tells_corner, tells_way}
use Rattle.script_reader.proofs.PointLaws.{no_words}

-- ---- a place of one word

said_ok : {A : Type 0} (wrong : Fault) (o : Option A) (ws : List Word) (r : A × List Word) → said wrong o ws ≡ Ok r → (o ≡ Some r.0) × (r.1 ≡ ws)
said_ok {A} wrong (Some x) ws r e = let same : (x, ws) ≡ r = cc e in (ap (λ (p : A × List Word). Some p.0) same, sym (ap (λ (p : A × List Word). p.1) same))
said_ok wrong None ws r e = absurd (cc e)

said_err : {A : Type 0} (wrong : Fault) (o : Option A) (ws : List Word) (f : Fault) → said wrong o ws ≡ Err f → (o ≡ None) × (f ≡ wrong)
said_err wrong (Some x) ws f e = absurd (cc e)
said_err wrong None ws f e = (refl, cc e)

next_ok : {A : Type 0} (read : Word → Option A) (says : Word → A → Type 0) → Tells read says → (wrong : Fault) (ws : List Word) (r : A × List Word) → next_of wrong read ws ≡ Ok r → Begins says ws r.0 r.1
next_ok read says t wrong [] r e = absurd (cc e)
next_ok read says t wrong (w ∷ ws) r e = let s = said_ok wrong (read w) ws r e in (t.told w r.0 s.0, s.1)

ok_next : {A : Type 0} (read : Word → Option A) (says : Word → A → Type 0) → Tells read says → (wrong : Fault) (ws : List Word) (x : A) (rest : List Word) → Begins says ws x rest → next_of wrong read ws ≡ Ok (x, rest)
ok_next read says t wrong [] x rest b = absurd b
ok_next read says t wrong (w ∷ ws) x rest b = rw (t.spelled w x b.0, b.1) refl

next_err : {A : Type 0} (read : Word → Option A) (says : Word → A → Type 0) → Tells read says → (wrong : Fault) (ws : List Word) (f : Fault) → next_of wrong read ws ≡ Err f → FailsWord wrong says ws f
next_err read says t wrong [] f e = cc e
next_err read says t wrong (w ∷ ws) f e =
    let s = said_err wrong (read w) ws f e in
    (λ x h. absurd (cc (s.0, t.spelled w x h)), s.1)

err_next : {A : Type 0} (read : Word → Option A) (says : Word → A → Type 0) → Tells read says → (wrong : Fault) (ws : List Word) (f : Fault) → FailsWord wrong says ws f → next_of wrong read ws ≡ Err f
err_next read says t wrong [] f h = rw h refl
err_next read says t wrong (w ∷ ws) f h = elim (some_or_none (read w)) [
  | inl some ↦ absurd (h.0 some.0 (t.told w some.0 some.1))
  | inr none ↦ rw (none, h.1) refl
]

-- ---- three words

integer_ok : (ws : List Word) (r : ℤ × List Word) → next_of BadNumber integer_of ws ≡ Ok r → Begins SaysInteger ws r.0 r.1
integer_ok ws r e = next_ok integer_of SaysInteger tells_integer BadNumber ws r e

ok_integer : (ws : List Word) (x : ℤ) (rest : List Word) → Begins SaysInteger ws x rest → next_of BadNumber integer_of ws ≡ Ok (x, rest)
ok_integer ws x rest b = ok_next integer_of SaysInteger tells_integer BadNumber ws x rest b

integer_err : (ws : List Word) (f : Fault) → next_of BadNumber integer_of ws ≡ Err f → FailsWord BadNumber SaysInteger ws f
integer_err ws f e = next_err integer_of SaysInteger tells_integer BadNumber ws f e

err_integer : (ws : List Word) (f : Fault) → FailsWord BadNumber SaysInteger ws f → next_of BadNumber integer_of ws ≡ Err f
err_integer ws f h = err_next integer_of SaysInteger tells_integer BadNumber ws f h

-- the point of three coordinates, and the words after them
abbrev pointed : ℤ → ℤ → ℤ × List Word → Point × List Word
pointed x y z = (record { x = x; y = y; z = z.0 }, z.1)

abbrev third : ℤ → ℤ × List Word → Result (Point × List Word) Fault
third x y = next_of BadNumber integer_of y.1 >>= λ z. Ok (pointed x y.0 z)

abbrev second : ℤ × List Word → Result (Point × List Word) Fault
second x = next_of BadNumber integer_of x.1 >>= λ y. third x.0 y

point_ok : (ws : List Word) (r : Point × List Word) → point_of ws ≡ Ok r → BeginsPlace ws r.0 r.1
point_ok ws r e =
    let a = bind_ok (next_of BadNumber integer_of ws) second r e in
    let b = bind_ok (next_of BadNumber integer_of a.0.1) (λ y. third a.0.0 y) r a.2 in
    let c = bind_ok (next_of BadNumber integer_of b.0.1) (λ z. Ok (pointed a.0.0 b.0.0 z)) r b.2 in
    let same : pointed a.0.0 b.0.0 c.0 ≡ r = cc c.2 in
    let words_read : BeginsPlace ws (pointed a.0.0 b.0.0 c.0).0 (pointed a.0.0 b.0.0 c.0).1 = (a.0.1, b.0.1, integer_ok ws a.0 a.1, integer_ok a.0.1 b.0 b.1, integer_ok b.0.1 c.0 c.1) in
    subst (λ (s : Point × List Word). BeginsPlace ws s.0 s.1) same words_read

ok_point : (ws : List Word) (p : Point) (rest : List Word) → BeginsPlace ws p rest → point_of ws ≡ Ok (p, rest)
ok_point ws p rest b = rw (ok_integer ws p.x b.0 b.2, ok_integer b.0 p.y b.1 b.3, ok_integer b.1 p.z rest b.4) refl

point_err : (ws : List Word) (f : Fault) → point_of ws ≡ Err f → FailsPlace ws f
point_err ws f e = elim (bind_err (next_of BadNumber integer_of ws) second f e) [
  | inl first ↦ inl (integer_err ws f first)
  | inr a ↦ elim (bind_err (next_of BadNumber integer_of a.0.1) (λ y. third a.0.0 y) f a.2) [
    | inl middle ↦ inr (a.0.0, a.0.1, integer_ok ws a.0 a.1, inl (integer_err a.0.1 f middle))
    | inr b ↦ elim (bind_err (next_of BadNumber integer_of b.0.1) (λ z. Ok (pointed a.0.0 b.0.0 z)) f b.2) [
      | inl last ↦ inr (a.0.0, a.0.1, integer_ok ws a.0 a.1, inr (b.0.0, b.0.1, integer_ok a.0.1 b.0 b.1, integer_err b.0.1 f last))
      | inr c ↦ absurd (cc c.2)
    ]
  ]
]

err_point : (ws : List Word) (f : Fault) → FailsPlace ws f → point_of ws ≡ Err f
err_point ws f h = elim h [
  | inl first ↦ rw (err_integer ws f first) refl
  | inr a ↦ elim a.3 [
    | inl middle ↦ rw (ok_integer ws a.0 a.1 a.2, err_integer a.1 f middle) refl
    | inr b ↦ rw (ok_integer ws a.0 a.1 a.2, ok_integer a.1 b.0 b.1 b.2, err_integer b.1 f b.3) refl
  ]
]

-- ---- points to the end of the line

points_ok : (room : ℕ) (ws : List Word) (r : List Point × List Word) → points_of room ws ≡ Ok r → ArePoints r.0 ws × (length r.0 ≤ room) × (r.1 ≡ [])
points_ok zero (w ∷ ws) r e = absurd (cc e)
points_ok (suc room) (w ∷ ws) r e =
    let a = bind_ok (point_of (w ∷ ws)) (λ p. points_of room p.1 >>= λ ps. Ok (p.0 ∷ ps.0, ps.1)) r e in
    let b = bind_ok (points_of room a.0.1) (λ ps. Ok (a.0.0 ∷ ps.0, ps.1)) r a.2 in
    let same : (a.0.0 ∷ b.0.0, b.0.1) ≡ r = cc b.2 in
    let more = points_ok room a.0.1 b.0 b.1 in
    subst (λ (s : List Point × List Word). ArePoints s.0 (w ∷ ws) × (length s.0 ≤ suc room) × (s.1 ≡ [])) same ((a.0.1, point_ok (w ∷ ws) a.0 a.1, more.0), omega (arith, more.1), more.2)
points_ok room [] r e = let same : ([], []) ≡ r = cc (no_words room, e) in subst (λ (s : List Point × List Word). ArePoints s.0 [] × (length s.0 ≤ room) × (s.1 ≡ [])) same (refl, omega arith, refl)

ok_points : (room : ℕ) (ws : List Word) (ps : List Point) → ArePoints ps ws → length ps ≤ room → points_of room ws ≡ Ok (ps, [])
ok_points room ws [] h le = rw h (no_words room)
ok_points zero ws (p ∷ ps) h le = absurd (omega (arith, le))
ok_points (suc room) [] (p ∷ ps) h le = absurd h.1.2
ok_points (suc room) (w ∷ ws) (p ∷ ps) h le = rw (ok_point (w ∷ ws) p h.0 h.1, ok_points room h.0 ps h.2 (omega (arith, le))) refl

points_err : (room : ℕ) (ws : List Word) (f : Fault) → points_of room ws ≡ Err f → FailsPoints room ws f
points_err zero (w ∷ ws) f e = cc e
points_err (suc room) (w ∷ ws) f e = elim (bind_err (point_of (w ∷ ws)) (λ p. points_of room p.1 >>= λ ps. Ok (p.0 ∷ ps.0, ps.1)) f e) [
  | inl here ↦ inl (point_err (w ∷ ws) f here)
  | inr a ↦ elim (bind_err (points_of room a.0.1) (λ ps. Ok (a.0.0 ∷ ps.0, ps.1)) f a.2) [
    | inl later ↦ inr (a.0.0, a.0.1, point_ok (w ∷ ws) a.0 a.1, points_err room a.0.1 f later)
    | inr b ↦ absurd (cc b.2)
  ]
]
points_err room ws f e = absurd (cc e)

err_points : (room : ℕ) (ws : List Word) (f : Fault) → FailsPoints room ws f → points_of room ws ≡ Err f
err_points zero (w ∷ ws) f h = rw h refl
err_points (suc room) (w ∷ ws) f h = elim h [
  | inl here ↦ rw (err_point (w ∷ ws) f here) refl
  | inr a ↦ rw (ok_point (w ∷ ws) a.0 a.1 a.2, err_points room a.1 f a.3) refl
]
err_points room ws f h = absurd h

-- ---- any place

pub read_ok : (k : Kind) (ws : List Word) (r : Meaning k × List Word) → read k ws ≡ Ok r → Means k ws r.0 r.1
read_ok Number ws r e = next_ok _ _ tells_number BadNumber ws r e
read_ok Integer ws r e = integer_ok ws r e
read_ok Half ws r e = next_ok _ _ tells_half BadNumber ws r e
read_ok AnyCorner ws r e = next_ok _ _ tells_corner BadNumber ws r e
read_ok Place ws r e = point_ok ws r e
read_ok Places ws r e = points_ok 64 ws r e
read_ok InOrOut ws r e = next_ok _ _ tells_way BadWord ws r e

pub ok_read : (k : Kind) (ws : List Word) (x : Meaning k) (rest : List Word) → Means k ws x rest → read k ws ≡ Ok (x, rest)
ok_read Number ws x rest m = ok_next _ _ tells_number BadNumber ws x rest m
ok_read Integer ws x rest m = ok_integer ws x rest m
ok_read Half ws x rest m = ok_next _ _ tells_half BadNumber ws x rest m
ok_read AnyCorner ws x rest m = ok_next _ _ tells_corner BadNumber ws x rest m
ok_read Place ws x rest m = ok_point ws x rest m
ok_read Places ws x rest m = rw m.2 (ok_points 64 ws x m.0 m.1)
ok_read InOrOut ws x rest m = ok_next _ _ tells_way BadWord ws x rest m

pub read_err : (k : Kind) (ws : List Word) (f : Fault) → read k ws ≡ Err f → Fails k ws f
read_err Number ws f e = next_err _ _ tells_number BadNumber ws f e
read_err Integer ws f e = integer_err ws f e
read_err Half ws f e = next_err _ _ tells_half BadNumber ws f e
read_err AnyCorner ws f e = next_err _ _ tells_corner BadNumber ws f e
read_err Place ws f e = point_err ws f e
read_err Places ws f e = points_err 64 ws f e
read_err InOrOut ws f e = next_err _ _ tells_way BadWord ws f e

pub err_read : (k : Kind) (ws : List Word) (f : Fault) → Fails k ws f → read k ws ≡ Err f
err_read Number ws f h = err_next _ _ tells_number BadNumber ws f h
err_read Integer ws f h = err_integer ws f h
err_read Half ws f h = err_next _ _ tells_half BadNumber ws f h
err_read AnyCorner ws f h = err_next _ _ tells_corner BadNumber ws f h
err_read Place ws f h = err_point ws f h
err_read Places ws f h = err_points 64 ws f h
err_read InOrOut ws f h = err_next _ _ tells_way BadWord ws f h
