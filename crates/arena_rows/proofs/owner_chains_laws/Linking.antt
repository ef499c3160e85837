-- What becomes of a row where two items are led elsewhere.
use Rattle.arena_rows.proofs.Prelude.{◌≡◌, ◌≢◌, ℕ, Bool, true, false, cond, nat_eq, List, Option, Some, None, is_some, refl, sym, ap, ◌∙◌, eq-eqb, ne_eqb, inl, inr, eqb_tells, Link, is_owner, link_at, owner_in, is_of, leading_on, leading_back, relinked}

pub same_link : (x y : Link) → Some x ≡ Some y → x ≡ y
same_link x y e = cc

-- the row that stands there now, by the one before
pub record IsRelinked (a x b y q : ℕ) (row : Option Link) (now : Link) : Type 0 where
  pub link : Link
  pub was : row ≡ Some link
  pub owner : now.owner ≡ link.owner
  pub leads_on : q ≡ a → now.next ≡ x
  pub next : q ≢ a → now.next ≡ link.next
  pub back : q ≡ b → now.previous ≡ y
  pub previous : q ≢ b → now.previous ≡ link.previous

module _ (a x b y q : ℕ) where
  abbrev led : Bool → Bool → Option Link → Option Link
  led da db row = cond db (leading_back y (cond da (leading_on x row) row)) (cond da (leading_on x row) row)

  led_none_is : (da db : Bool) → led da db None ≡ None
  led_none_is true true = refl
  led_none_is true false = refl
  led_none_is false true = refl
  led_none_is false false = refl

  led_some_is : (da db : Bool) (link : Link) → led da db (Some link) ≡ Some (record { owner = link.owner; previous = cond db y link.previous; next = cond da x link.next })
  led_some_is true true link = refl
  led_some_is true false link = refl
  led_some_is false true link = refl
  led_some_is false false link = refl

  pub none_relinked : relinked a x b y q None ≡ None
  none_relinked = led_none_is (nat_eq q a) (nat_eq q b)

  pub relinked_row : (row : Option Link) (now : Link) → relinked a x b y q row ≡ Some now → IsRelinked a x b y q row now
  relinked_row None now is = let z = sym none_relinked ∙ is in cc
  relinked_row (Some link) now is =
      let s = same_link _ _ (sym is ∙ led_some_is (nat_eq q a) (nat_eq q b) link) in
      record {
        link = link;
        was = refl;
        owner = ap (λ l. l.owner) s;
        leads_on = λ h. ap (λ l. l.next) s ∙ ap (λ t. cond t x link.next) (eq-eqb q a h);
        next = λ h. ap (λ l. l.next) s ∙ ap (λ t. cond t x link.next) (ne_eqb q a h);
        back = λ h. ap (λ l. l.previous) s ∙ ap (λ t. cond t y link.previous) (eq-eqb q b h);
        previous = λ h. ap (λ l. l.previous) s ∙ ap (λ t. cond t y link.previous) (ne_eqb q b h);
      }

  pub owner_in-relinked : (row : Option Link) → owner_in (relinked a x b y q row) ≡ owner_in row
  owner_in-relinked None = ap owner_in none_relinked
  owner_in-relinked (Some link) = ap owner_in (led_some_is (nat_eq q a) (nat_eq q b) link)

-- the items of an owner, by the owners
pub is_of-owner_in : (o : ℕ) (row : Option Link) → is_of o row ≡ is_owner o (owner_in row)
is_of-owner_in o None = refl
is_of-owner_in o (Some link) = refl

-- an item that is led elsewhere, where f says how
pub led_row : (f : Option Link → Option Link) (links new : List (Option Link)) (n : ℕ) (old row : Link) → link_at links n ≡ Some old → Some row ≡ f (Some old) → ((q : ℕ) → link_at new q ≡ cond (nat_eq q n) (Some row) (link_at links q)) → (q : ℕ) →
    link_at new q ≡ cond (nat_eq q n) (f (link_at links q)) (link_at links q)
led_row f links new n old row here is rows q = rows q ∙ (elim (eqb_tells q n) [
  | inl p ↦ ap (λ b. cond b (Some row) (link_at links q)) p.0 ∙ is ∙ ap f (sym here ∙ ap (link_at links) (sym p.1)) ∙ sym (ap (λ b. cond b (f (link_at links q)) (link_at links q)) p.0)
  | inr p ↦ ap (λ b. cond b (Some row) (link_at links q)) p.0 ∙ sym (ap (λ b. cond b (f (link_at links q)) (link_at links q)) p.0)
])

-- and where there is none
pub led_none : (f : Option Link → Option Link) (links : List (Option Link)) (n : ℕ) → f None ≡ None → link_at links 0 ≡ None → n ≡ 0 → (q : ℕ) → link_at links q ≡ cond (nat_eq q n) (f (link_at links q)) (link_at links q)
led_none f links n none zero is q = elim (eqb_tells q n) [
  | inl p ↦ let gone : link_at links q ≡ None = ap (link_at links) (p.1 ∙ is) ∙ zero in gone ∙ sym none ∙ ap f (sym gone) ∙ sym (ap (λ b. cond b (f (link_at links q)) (link_at links q)) p.0)
  | inr p ↦ sym (ap (λ b. cond b (f (link_at links q)) (link_at links q)) p.0)
]

-- where a row is led elsewhere, no row comes or goes
pub led_there : (f : Option Link → Option Link) (links new : List (Option Link)) (n : ℕ) → ((row : Option Link) → is_some (f row) ≡ is_some row) → ((q : ℕ) → link_at new q ≡ cond (nat_eq q n) (f (link_at links q)) (link_at links q)) → (q : ℕ) →
    is_some (link_at new q) ≡ is_some (link_at links q)
led_there f links new n keeps rows q = ap is_some (rows q) ∙ (elim (nat_eq q n) as (λ b. is_some (cond b (f (link_at links q)) (link_at links q)) ≡ is_some (link_at links q)) [ true ↦ keeps (link_at links q) | false ↦ refl ])

pub on_there : (to : ℕ) (row : Option Link) → is_some (leading_on to row) ≡ is_some row
on_there to None = refl
on_there to (Some link) = refl

pub zero_led : (f : Option Link → Option Link) (links new : List (Option Link)) (n : ℕ) → f None ≡ None → ((q : ℕ) → link_at new q ≡ cond (nat_eq q n) (f (link_at links q)) (link_at links q)) → link_at links 0 ≡ None → link_at new 0 ≡ None
zero_led f links new n none rows zero = rows 0 ∙ (elim (nat_eq 0 n) as (λ b. cond b (f (link_at links 0)) (link_at links 0) ≡ None) [ true ↦ ap f zero ∙ none | false ↦ zero ])
