-- Going to the next line.
use Rattle.script_reader.proofs.Prelude.{◌≡◌, ◌⊎◌, inl, inr, ℕ, ◌+◌, ◌-◌, ◌<◌, ◌≤◌, Bool, true, false, List, [], ◌∷◌, ◌++◌, length, take, refl, sym, ap, subst, ◌∙◌, arith, append_assoc, length-append, Option, append-nil, take_all, take_at, drop_at, take-append-le, take-add, take-append-add, cases_lt, Consumes-nil, Consumes-trans, Consumes, Keeps, Holding, Lacks, has_newline, is_ready, has_line, IsStill, Lines, within_limit, Reads, Answers, Advances, LastAnswer, Ending, Open, Ended, Failed, Over, Found}
use Rattle.script_reader.proofs.NewlineLaws.{Lacks-append, has-lacks, lacks-behind}
use Rattle.script_reader.specs.Reaching.{MayRead}
use Rattle.std.proofs.KnownBytes.{Consumes-kept}
use Rattle.script_reader.specs.declared.lines.Found.TheVariants as found

-- a read is still to come
abbrev pub turns : Ending → ℕ
turns Open = 1
turns e = 0

-- on the way to the next newline: what was dropped of a long line, and what is unread
pub record Waits (before after : Option (List ℕ)) (taken count : ℕ) (unread now : List ℕ) (is_long : Bool) : Type 0 where
  pub given : List ℕ
  pub dropped : List ℕ
  pub consumed : Consumes before after given
  pub counted : count ≡ taken + length given
  pub text : unread ++ within_limit taken given ≡ dropped ++ now
  pub lacks : Lacks dropped
  pub long : is_long ≡ true → 65536 < length dropped
  pub short : is_long ≡ false → dropped ≡ []

pub limit_none : (taken : ℕ) → within_limit taken [] ≡ []
unfolding within_limit
limit_none taken = take_all (67108864 - taken) [] (omega arith)

pub starts : (a : Option (List ℕ)) (taken : ℕ) (unread : List ℕ) → Waits a a taken taken unread unread false
starts a taken unread = record {
  given = [];
  dropped = [];
  consumed = Consumes-nil a;
  counted = omega arith;
  text = ap (λ (xs : List ℕ). unread ++ xs) (limit_none taken) ∙ append-nil unread;
  lacks = tt;
  long = λ e. absurd cc;
  short = λ _. refl;
}

pub clears : (a b : Option (List ℕ)) (taken count : ℕ) (unread now : List ℕ) (is_long : Bool) → Waits a b taken count unread now is_long → Lacks now → 65536 < length now → Waits a b taken count unread [] true
clears a b taken count unread now is_long w h more = record {
  given = w.given;
  dropped = w.dropped ++ now;
  consumed = w.consumed;
  counted = w.counted;
  text = w.text ∙ sym (append-nil (w.dropped ++ now));
  lacks = Lacks-append w.dropped now w.lacks h;
  long = λ _. simp length-append (omega arith);
  short = λ e. absurd cc;
}

take_split : (n : ℕ) (g h : List ℕ) → take n (g ++ h) ≡ take n g ++ take (n - length g) h
take_split n g h =
    elim (cases_lt n (length g)) [
      | inr le ↦
          let m : n ≡ length g + (n - length g) = omega arith in
          let front : take n g ≡ g = take_all n g le in
          ap (λ (k : ℕ). take k (g ++ h)) m ∙ take-add (length g) (n - length g) (g ++ h) ∙ rw (front, take_at g h (length g) refl, drop_at g h (length g) refl) refl
      | inl gt ↦
          let nothing : n - length g ≡ 0 = omega arith in
          rw (take-append-le n g h (omega arith), nothing) (sym (append-nil (take n g)))
    ]

-- bytes that come in two parts
pub limit_append : (taken : ℕ) (g h : List ℕ) → within_limit taken (g ++ h) ≡ within_limit taken g ++ within_limit (taken + length g) h
unfolding within_limit
limit_append taken g h =
    let n : 67108864 - taken - length g ≡ 67108864 - (taken + length g) = omega arith in
    take_split (67108864 - taken) g h ∙ ap (λ (k : ℕ). take (67108864 - taken) g ++ take k h) n

pub reads : (a b c : Option (List ℕ)) (taken count more : ℕ) (unread now next : List ℕ) (is_long : Bool) → Waits a b taken count unread now is_long → Reads b c count more now next → count ≤ 67108864 → Waits a c taken more unread next is_long
reads a b c taken count more unread now next is_long w r le = record {
  given = w.given ++ r.given;
  dropped = w.dropped;
  consumed = Consumes-trans a b c w.given r.given w.consumed r.consumed;
  counted = simp length-append (omega (arith, w.counted, r.counted));
  text = ap (λ (xs : List ℕ). unread ++ xs) (limit_append taken w.given r.given) ∙ sym (append_assoc unread (within_limit taken w.given) (within_limit (taken + length w.given) r.given))
      ∙ ap (λ (xs : List ℕ). xs ++ within_limit (taken + length w.given) r.given) w.text ∙ append_assoc w.dropped now (within_limit (taken + length w.given) r.given)
      ∙ ap (λ (xs : List ℕ). w.dropped ++ xs) (ap (λ (k : ℕ). now ++ within_limit k r.given) (sym w.counted) ∙ sym r.text);
  lacks = w.lacks;
  long = w.long;
  short = w.short;
}

pub long_line : (a b : Option (List ℕ)) (taken count : ℕ) (unread now : List ℕ) (new : Holding) (is_long : Bool) (ending : Ending) → Waits a b taken count unread now is_long
    → now ≡ new.line ++ 10 ∷ new.unread → Lacks new.line → (is_long ≡ true) ⊎ (65536 < length new.line) → Advances a b taken count unread new.line new.unread ending found.Long
long_line a b taken count unread now new is_long ending w e h long = record {
  given = w.given;
  consumed = w.consumed;
  counted = w.counted;
  answered = (
    w.dropped ++ new.line,
    (Lacks-append w.dropped new.line w.lacks h, inl (w.text ∙ ap (λ (xs : List ℕ). w.dropped ++ xs) e ∙ sym (append_assoc w.dropped new.line (10 ∷ new.unread)))),
    elim long [ inl yes_long ↦ simp length-append (omega (arith, w.long yes_long)) | inr much ↦ simp length-append (omega arith) ],
  );
}

-- behind the last newline
lacks_text : (text dropped now : List ℕ) → text ≡ dropped ++ now → Lacks dropped → Lacks now → Lacks text
lacks_text text dropped now e h k = subst Lacks (sym e) (Lacks-append dropped now h k)

not_long : (text dropped now : List ℕ) → text ≡ dropped ++ now → dropped ≡ [] → text ≡ now
not_long text dropped now e none = e ∙ ap (λ (xs : List ℕ). xs ++ now) none

last_parts : (ending : Ending) (answer : Found) (old new : Holding) (is_long : Bool) (text dropped : List ℕ) → text ≡ dropped ++ old.unread → Lacks dropped → (is_long ≡ true → 65536 < length dropped) → (is_long ≡ false → dropped ≡ [])
    → Lacks old.unread → LastAnswer old new ending is_long answer → Answers answer ending text new.line new.unread
last_parts Failed found.Read old new is_long text dropped e k long short h l = (lacks_text text dropped old.unread e k h, subst Lacks (sym l.1) h, refl)
last_parts Failed answer old new is_long text dropped e k long short h l = absurd (cc l.0)
last_parts Over found.TooLong old new is_long text dropped e k long short h l = (lacks_text text dropped old.unread e k h, subst Lacks (sym l.1) h, refl)
last_parts Over answer old new is_long text dropped e k long short h l = absurd (cc l.0)
last_parts Ended found.Line old new is_long text dropped e k long short h l =
    ((subst Lacks (sym l.3) h, inr (not_long text dropped old.unread e (short l.0) ∙ sym l.3, l.4, subst (λ (xs : List ℕ). 0 < length xs) (sym l.3) l.2, refl)), subst (λ (xs : List ℕ). length xs ≤ 65536) (sym l.3) l.1)
last_parts Ended found.Long old new is_long text dropped e k long short h l =
    let much : 65536 < length (dropped ++ old.unread) = elim l.0 [ inl was_long ↦ simp length-append (omega (arith, long was_long)) | inr more ↦ simp length-append (omega arith) ] in
    (dropped ++ old.unread, (Lacks-append dropped old.unread k h, inr (e, l.1, omega arith, refl)), much)
last_parts Ended found.End old new is_long text dropped e k long short h l = (not_long text dropped old.unread e (short l.0) ∙ l.1, l.2, refl)
last_parts ending answer old new is_long text dropped e k long short h l = absurd l

pub last_answer : (a b : Option (List ℕ)) (taken count : ℕ) (unread : List ℕ) (old new : Holding) (is_long : Bool) (ending : Ending) (answer : Found) → Waits a b taken count unread old.unread is_long
    → Lacks old.unread → LastAnswer old new ending is_long answer → Advances a b taken count unread new.line new.unread ending answer
last_answer a b taken count unread old new is_long ending answer w h l = record {
  given = w.given;
  consumed = w.consumed;
  counted = w.counted;
  answered = last_parts ending answer old new is_long (unread ++ within_limit taken w.given) w.dropped w.text w.lacks w.long w.short h l;
}

pub Waits-same : (a b c : Option (List ℕ)) (taken count more : ℕ) (unread now next : List ℕ) (is_long longer : Bool) → c ≡ b → more ≡ count → next ≡ now → longer ≡ is_long → Waits a b taken count unread now is_long → Waits a c taken more unread next longer
Waits-same a b c taken count more unread now next is_long longer e f k l w = record {
  given = w.given;
  dropped = w.dropped;
  consumed = subst (λ (o : Option (List ℕ)). Consumes a o w.given) (sym e) w.consumed;
  counted = f ∙ w.counted;
  text = w.text ∙ ap (λ (xs : List ℕ). w.dropped ++ xs) (sym k);
  lacks = w.lacks;
  long = λ h. w.long (sym l ∙ h);
  short = λ h. w.short (sym l ∙ h);
}

-- where the answer is there, a step doesn't come to a read
pub not_ready : {R : Type 0} (old now : Lines R) → has_line old ≡ true → IsStill old now → now.buffer.unread ≡ old.buffer.unread → now.ending ≡ Open → Lacks now.buffer.unread → ⊥
not_ready old now ready still same e lacks =
    let calm : is_ready Open now.buffer.unread ≡ false = has-lacks now.buffer.unread lacks in
    let opened : Open ≡ old.ending = sym e ∙ still.ending in
    let moved : is_ready Open now.buffer.unread ≡ has_line old = ap (λ (xs : List ℕ). is_ready Open xs) same ∙ ap (λ (x : Ending). is_ready x old.buffer.unread) opened in
    cc (calm, moved, ready)

-- how a script ends is one way of four
pub open_not_ended : (x : Ending) → x ≡ Open → x ≡ Ended → ⊥
open_not_ended x e f = cc (e, f)

pub failed_not_ended : Failed ≡ Ended → ⊥
failed_not_ended e = cc e

-- no byte was read
pub none_read : (a b : Option (List ℕ)) (taken n : ℕ) (old new given : List ℕ) → Consumes a b given → new ≡ old ++ given → length given ≡ n → n ≡ 0 → Reads a b taken taken old new
none_read a b taken n old new [] consumed more is none = record { given = []; consumed = consumed; counted = omega arith; text = more ∙ ap (λ (xs : List ℕ). old ++ xs) (sym (limit_none taken)) }
none_read a b taken n old new (x ∷ xs) consumed more is none = absurd (omega (arith, is, none))

-- bytes were read, all of them within the limit
pub all_within : (a b : Option (List ℕ)) (taken count n : ℕ) (old new given : List ℕ) → count ≡ taken + n → Consumes a b given → new ≡ old ++ given → length given ≡ n → taken + n ≤ 67108864 → Reads a b taken count old new
unfolding within_limit
all_within a b taken count n old new given counted consumed more is le = record {
  given = given;
  consumed = consumed;
  counted = counted ∙ ap (λ (k : ℕ). taken + k) (sym is);
  text = more ∙ ap (λ (xs : List ℕ). old ++ xs) (sym (take_all (67108864 - taken) given (omega (arith, is, le))));
}

-- the last of the bytes that were read is past the limit, and was taken back
pub one_past : (a b : Option (List ℕ)) (taken count n : ℕ) (old more new given : List ℕ) → count ≡ taken + n → Consumes a b given → more ≡ old ++ given → length given ≡ n → taken ≤ 67108864 → n ≤ 67108865 - taken → 67108864 < taken + n
    → new ≡ take (length more - 1) more → Reads a b taken count old new
unfolding within_limit
one_past a b taken count n old more new given counted consumed text is within most over back =
    let sizes : length more ≡ length old + length given = ap length text ∙ length-append old given in
    let all_but_one : length more - 1 ≡ length old + (67108864 - taken) = omega (arith, sizes, is) in
    record {
      given = given;
      consumed = consumed;
      counted = counted ∙ ap (λ (k : ℕ). taken + k) (sym is);
      text = back ∙ ap (λ (xs : List ℕ). take (length more - 1) xs) text ∙ ap (λ (k : ℕ). take k (old ++ given)) all_but_one ∙ take-append-add old given (67108864 - taken);
    }

-- ---- what a read asks for

module _ {R : Type 0} (remaining : R → Option (List ℕ)) (asks : R → Option (List ℕ) → Type 0) (contents : Option (List ℕ)) where
  -- a read that failed gave nothing
  pub still_asked : (old new : R) → MayRead remaining asks old contents → Keeps (remaining old) (remaining new) → asks new contents
  still_asked old new may kept = may new [] (Consumes-kept (remaining old) (remaining old) (remaining new) [] (Consumes-nil (remaining old)) kept) tt

  -- bytes were read, and none of them is a newline
  pub reads_on : (old new : R) (taken count : ℕ) (unread now : List ℕ) → MayRead remaining asks old contents → Reads (remaining old) (remaining new) taken count unread now → count ≤ 67108864 → has_newline now ≡ false
      → MayRead remaining asks new contents
  unfolding within_limit
  reads_on old new taken count unread now may r within none = λ later more c lacks.
      let all : within_limit taken r.given ≡ r.given = take_all (67108864 - taken) r.given (omega (arith, r.counted, within)) in
      let given : Lacks r.given = subst Lacks all (lacks-behind unread (within_limit taken r.given) (ap has_newline (sym r.text) ∙ none)) in
      may later (r.given ++ more) (Consumes-trans (remaining old) (remaining new) (remaining later) r.given more r.consumed c) (Lacks-append r.given more given lacks)
