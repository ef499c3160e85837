-- Rings of live codes, and what becomes of them.
--     ring_is, ring_same      the ring of a code, by any list that `next` leads round;  one for all its items
--     AreRings-..       the rings stay rings
use Rattle.arena_rows.proofs.Prelude.{◌≡◌, ◌≢◌, ℕ, ◌+◌, ◌<◌, Bool, true, false, cond, nat_eq, List, ◌∷◌, ◌++◌, Option, Some, None, is_some, refl, sym, ap, subst, ◌∙◌, arith, true≢false, inl, inr, nat_tests, Spot, or_zero, of_spot, count, IsIn, IsApart, head_or, canonical, orbit, IsRing, splice, cut_left, cut_right, joined, rest, between, beyond, count-append, IsIn_or_not, length_below, count-canonical, canonical-canonical, IsPath-agree, canonical-orbit, next_is_successor, IsIn_successor, splice_elsewhere, count-cut, IsApart-cut, IsRing-cut, count-joined, IsApart-joined, IsRing-join, mate, Spots, codes, live, next, label, ring, is_in, map_spot, spliced, labelled, IsRingOf, AreRings, set_tail}

-- a list that is turned to its least item stays where it is turned so again
pub canonical_fixed : (xs : List ℕ) → IsApart (canonical xs) → canonical (canonical xs) ≡ canonical xs
canonical_fixed xs d = canonical-canonical xs (λ x. omega (arith, count-canonical x xs, d x))

-- ---- the ring of a code

-- a list without repeats round which the links lead is the ring of its items, turned to its least one
pub ring_is : (sp : Spots) (c : ℕ) (hs : List ℕ) → IsRing (next sp) hs → IsApart hs → IsIn c hs → ((x : ℕ) → IsIn x hs → x < codes) → ring sp c ≡ canonical hs
unfolding ring
ring_is sp c hs r d i below = canonical-orbit (next sp) c hs codes r d i (length_below codes hs d below)

-- the rings are the same where the links are
pub ring_next : (sp new : Spots) (c : ℕ) → ((x : ℕ) → next new x ≡ next sp x) → ring new c ≡ ring sp c
unfolding ring
ring_next sp new c e = λ i. canonical (orbit (λ x. e x i) c codes)

-- a list that is a ring of live codes
pub ring_of : (sp : Spots) → ((c : ℕ) → live sp c ≡ true → c < codes) → (c : ℕ) (hs : List ℕ) → IsRingOf sp c hs → canonical hs ≡ hs → (ring sp c ≡ hs) × IsRingOf sp c (ring sp c)
ring_of sp bound c hs o k =
    let e : ring sp c ≡ hs = ring_is sp c hs o.leads o.apart o.item (λ x i. bound x (o.awake x i)) ∙ k in
    (e, subst (IsRingOf sp c) (sym e) o)

module _ (sp : Spots) (R : AreRings sp) where
  -- a ring begins with its least item
  pub canonical_ring : (c : ℕ) → live sp c ≡ true → canonical (ring sp c) ≡ ring sp c
  canonical_ring c a = let o = R.rings c a in sym (ring_is sp c (ring sp c) o.leads o.apart o.item (λ x i. R.bound x (o.awake x i)))

  -- each item of a ring has this ring
  pub ring_same : (c d : ℕ) → live sp c ≡ true → IsIn d (ring sp c) → ring sp d ≡ ring sp c
  ring_same c d a i = let o = R.rings c a in ring_is sp d (ring sp c) o.leads o.apart i (λ x j. R.bound x (o.awake x j)) ∙ canonical_ring c a

  -- two rings with an item in common are one
  pub ring_meet : (c d x : ℕ) → live sp c ≡ true → live sp d ≡ true → IsIn x (ring sp c) → IsIn x (ring sp d) → ring sp c ≡ ring sp d
  ring_meet c d x a b i j = sym (ring_same c x a i) ∙ ring_same d x b j

  -- a code's successor stands in its ring
  pub next_in_ring : (c : ℕ) → live sp c ≡ true → IsIn (next sp c) (ring sp c)
  next_in_ring c a = let o = R.rings c a in subst (λ z. IsIn z (ring sp c)) (sym (next_is_successor (next sp) (ring sp c) c o.leads o.item)) (IsIn_successor c (ring sp c) o.item)

-- a ring in spots that have the same live codes, links and, on it, labels
pub ring_kept : (sp new : Spots) → AreRings sp → (c : ℕ) → live sp c ≡ true → ((x : ℕ) → IsIn x (ring sp c) → live sp x ≡ true → live new x ≡ true) → ((x : ℕ) → live new x ≡ true → x < codes) → ((x : ℕ) → IsIn x (ring sp c) → next new x ≡ next sp x) →
    ((x : ℕ) → IsIn x (ring sp c) → label new x ≡ label new c) → (ring new c ≡ ring sp c) × IsRingOf new c (ring new c)
ring_kept sp new R c a lives bound links labels =
    let o = R.rings c a in
    let p : IsRingOf new c (ring sp c) = record {
      leads = IsPath-agree (next sp) (next new) (ring sp c) (head_or 0 (ring sp c)) (λ x i. sym (links x i)) o.leads;
      apart = o.apart;
      item = o.item;
      awake = λ d i. lives d i (o.awake d i);
      one_label = labels;
    } in
    ring_of new bound c (ring sp c) p (canonical_ring sp R c a)

-- ---- what an update says of live codes, links and labels

-- a change of what stands at a code wakes none and puts none to sleep
pub live-map : (f : Spot → Spot) (o : Option Spot) → is_some (map_spot f o) ≡ is_some o
live-map f None = refl
live-map f (Some s) = refl

-- a part that the change keeps is read as before
pub part-kept : (f : Spot → Spot) (g : Spot → ℕ) → ((s : Spot) → g (f s) ≡ g s) → (o : Option Spot) → or_zero (of_spot g (map_spot f o)) ≡ or_zero (of_spot g o)
part-kept f g same None = refl
part-kept f g same (Some s) = same s

-- a part that the change sets is read back
part-new : (f : Spot → Spot) (g : Spot → ℕ) (x : ℕ) → ((s : Spot) → g (f s) ≡ x) → (o : Option Spot) → is_some o ≡ true → or_zero (of_spot g (map_spot f o)) ≡ x
part-new f g x is None e = absurd (true≢false (sym e))
part-new f g x is (Some s) e = is s

-- either branch
pub either : {X Y : Type 0} (f : X → Y) (b : Bool) (x y : X) (z : Y) → f x ≡ z → f y ≡ z → f (cond b x y) ≡ z
either f true x y z p q = p
either f false x y z p q = q

-- the test whether a code stands in a list is true where it does
pub is_in-yes : (x : ℕ) (xs : List ℕ) → IsIn x xs → is_in x xs ≡ true
is_in-yes x xs i = grind (arith, nat_tests)

-- and false where it does not
pub is_in-no : (x : ℕ) (xs : List ℕ) → count x xs ≡ 0 → is_in x xs ≡ false
is_in-no x xs i = grind (arith, nat_tests)

module _ (sp : Spots) where
  pub live-set_tail : (c t x : ℕ) → live (set_tail sp c t) x ≡ live sp x
  live-set_tail c t x = either is_some (nat_eq x c) _ _ _ (live-map _ (sp x)) refl

  pub next-set_tail : (c t x : ℕ) → next (set_tail sp c t) x ≡ next sp x
  next-set_tail c t x = either (λ o. or_zero (of_spot (λ s. s.next) o)) (nat_eq x c) _ _ _ (part-kept _ _ (λ s. refl) (sp x)) refl

  pub label-set_tail : (c t x : ℕ) → label (set_tail sp c t) x ≡ label sp x
  label-set_tail c t x = either (λ o. or_zero (of_spot (λ s. s.label) o)) (nat_eq x c) _ _ _ (part-kept _ _ (λ s. refl) (sp x)) refl

  pub live-labelled : (l : ℕ) (hs : List ℕ) (x : ℕ) → live (labelled sp l hs) x ≡ live sp x
  live-labelled l hs x = either is_some (is_in x hs) _ _ _ (live-map _ (sp x)) refl

  pub next-labelled : (l : ℕ) (hs : List ℕ) (x : ℕ) → next (labelled sp l hs) x ≡ next sp x
  next-labelled l hs x = either (λ o. or_zero (of_spot (λ s. s.next) o)) (is_in x hs) _ _ _ (part-kept _ _ (λ s. refl) (sp x)) refl

  pub label-labelled_in : (l : ℕ) (hs : List ℕ) (x : ℕ) → IsIn x hs → live sp x ≡ true → label (labelled sp l hs) x ≡ l
  label-labelled_in l hs x i a = ap (λ b. or_zero (of_spot (λ s. s.label) (cond b (map_spot (λ s. record s { label = l }) (sp x)) (sp x)))) (is_in-yes x hs i) ∙ part-new _ _ l (λ s. refl) (sp x) a

  pub label-labelled_out : (l : ℕ) (hs : List ℕ) (x : ℕ) → count x hs ≡ 0 → label (labelled sp l hs) x ≡ label sp x
  label-labelled_out l hs x n = ap (λ b. or_zero (of_spot (λ s. s.label) (cond b (map_spot (λ s. record s { label = l }) (sp x)) (sp x)))) (is_in-no x hs n)

  pub live-spliced : (a b x : ℕ) → live (spliced sp a b) x ≡ live sp x
  live-spliced a b x = live-map _ (sp x)

  pub label-spliced : (a b x : ℕ) → label (spliced sp a b) x ≡ label sp x
  label-spliced a b x = part-kept _ _ (λ s. refl) (sp x)

  pub next-spliced : (a b x : ℕ) → live sp x ≡ true → next (spliced sp a b) x ≡ splice (next sp) a b x
  next-spliced a b x h = part-new _ _ _ (λ s. refl) (sp x) h

-- ---- the rings stay rings

module _ (sp : Spots) (R : AreRings sp) where
  -- the rings are rings where a half-edge starts elsewhere
  pub AreRings-set_tail : (c t : ℕ) → AreRings (set_tail sp c t)
  AreRings-set_tail c t = let new = set_tail sp c t in let bound : (x : ℕ) → live new x ≡ true → x < codes = λ x a. R.bound x (sym (live-set_tail sp c t x) ∙ a) in record {
    bound = bound;
    rings = λ d a. let b = sym (live-set_tail sp c t d) ∙ a in
        (ring_kept sp new R d b (λ x _ e. live-set_tail sp c t x ∙ e) bound (λ x i. next-set_tail sp c t x)
        (λ x i. label-set_tail sp c t x ∙ (R.rings d b).one_label x i ∙ sym (label-set_tail sp c t d))).1;
    mates = λ d a. live-set_tail sp c t (mate d) ∙ R.mates d (sym (live-set_tail sp c t d) ∙ a);
  }

  -- and each code keeps its ring
  pub ring-set_tail : (c t x : ℕ) → ring (set_tail sp c t) x ≡ ring sp x
  ring-set_tail c t x = ring_next sp (set_tail sp c t) x (next-set_tail sp c t)

  -- the items of the ring of b get the label l
  module _ (b l : ℕ) (there : live sp b ≡ true) where
    abbrev relabelled : Spots
    relabelled = labelled sp l (ring sp b)

    -- the items of a ring have one label
    labels_kept : (d x : ℕ) → live sp d ≡ true → IsIn x (ring sp d) → label relabelled x ≡ label relabelled d
    labels_kept d x a i = elim (IsIn_or_not d (ring sp b)) [
      | inl j ↦
          let e = ring_same sp R b d there j in
          label-labelled_in sp l (ring sp b) x (subst (IsIn x) e i) ((R.rings d a).awake x i) ∙ sym (label-labelled_in sp l (ring sp b) d j a)
      | inr n ↦
          let away : count x (ring sp b) ≡ 0 = elim (IsIn_or_not x (ring sp b)) [
            | inl j ↦ let e = ring_meet sp R b d x there a j i in let k : IsIn d (ring sp b) = subst (IsIn d) (sym e) (R.rings d a).item in absurd (omega arith)
            | inr m ↦ m
          ] in
          label-labelled_out sp l (ring sp b) x away ∙ (R.rings d a).one_label x i ∙ sym (label-labelled_out sp l (ring sp b) d n)
    ]

    -- each code keeps its ring
    pub ring-labelled : (x : ℕ) → ring relabelled x ≡ ring sp x
    ring-labelled x = ring_next sp relabelled x (next-labelled sp l (ring sp b))

    -- the rings are rings
    pub AreRings-labelled : AreRings relabelled
    AreRings-labelled = let bound : (x : ℕ) → live relabelled x ≡ true → x < codes = λ x a. R.bound x (sym (live-labelled sp l (ring sp b) x) ∙ a) in record {
      bound = bound;
      rings = λ d a. let e = sym (live-labelled sp l (ring sp b) d) ∙ a in
          (ring_kept sp relabelled R d e (λ x _ q. live-labelled sp l (ring sp b) x ∙ q) bound (λ x i. next-labelled sp l (ring sp b) x) (λ x i. labels_kept d x e i)).1;
      mates = λ d a. live-labelled sp l (ring sp b) (mate d) ∙ R.mates d (sym (live-labelled sp l (ring sp b) d) ∙ a);
    }

  module _ (a b : ℕ) (a_there : live sp a ≡ true) (b_there : live sp b ≡ true) where
    abbrev changed : Spots
    changed = spliced sp a b

    -- each live code is below the limit
    changed_bound : (x : ℕ) → live changed x ≡ true → x < codes
    changed_bound x h = R.bound x (sym (live-spliced sp a b x) ∙ h)

    -- a ring that holds neither
    other_ring : (c : ℕ) → live sp c ≡ true → count a (ring sp c) ≡ 0 → count b (ring sp c) ≡ 0 → (ring changed c ≡ ring sp c) × IsRingOf changed c (ring changed c)
    other_ring c h n m = ring_kept sp changed R c h (λ x _ q. live-spliced sp a b x ∙ q) changed_bound
        (λ x i. next-spliced sp a b x ((R.rings c h).awake x i) ∙ splice_elsewhere (next sp) a b x
        (λ e. let z : count x (ring sp c) ≡ 0 = ap (λ w. count w (ring sp c)) e ∙ n in absurd (omega arith))
        (λ e. let z : count x (ring sp c) ≡ 0 = ap (λ w. count w (ring sp c)) e ∙ m in absurd (omega arith)))
        (λ x i. label-spliced sp a b x ∙ (R.rings c h).one_label x i ∙ sym (label-spliced sp a b c))

    -- a list of live codes round which the spliced successors lead is led round by the new links
    leads_in_new : (hs : List ℕ) → ((x : ℕ) → IsIn x hs → live sp x ≡ true) → IsRing (splice (next sp) a b) hs → IsRing (next changed) hs
    leads_in_new hs lives r = IsPath-agree (splice (next sp) a b) (next changed) hs (head_or 0 hs) (λ x i. sym (next-spliced sp a b x (lives x i))) r

    -- a and another b stand in one ring
    module _ (together : IsIn b (ring sp a)) (ne : a ≢ b) where
      abbrev whole : List ℕ
      whole = ring sp a

      abbrev left : List ℕ
      left = cut_left a b whole

      abbrev right : List ℕ
      right = cut_right a b whole

      -- the two parts have the items of the ring between them
      pub cut_items : (x : ℕ) → count x left + count x right ≡ count x whole
      cut_items x = count-cut a b whole (R.rings a a_there).apart (R.rings a a_there).item together ne x

      -- a part round which the spliced successors lead is a ring of live codes with one label
      part : (c : ℕ) (hs : List ℕ) → IsIn c hs → ((x : ℕ) → IsIn x hs → IsIn x whole) → IsApart hs → IsRing (splice (next sp) a b) hs → IsRingOf changed c hs
      part c hs i inside d r = let o = R.rings a a_there in record {
        leads = leads_in_new hs (λ x j. o.awake x (inside x j)) r;
        apart = d;
        item = i;
        awake = λ x j. live-spliced sp a b x ∙ o.awake x (inside x j);
        one_label = λ x j. label-spliced sp a b x ∙ o.one_label x (inside x j) ∙ sym (label-spliced sp a b c ∙ o.one_label c (inside c i));
      }

      -- the left part is the ring of its items
      pub ring_left : (c : ℕ) → IsIn c left → (ring changed c ≡ left) × IsRingOf changed c (ring changed c)
      ring_left c i = let o = R.rings a a_there in let ap_ = IsApart-cut a b whole o.apart o.item together ne in
          ring_of changed changed_bound c left (part c left i (λ x j. omega (arith, cut_items x)) ap_.0 (IsRing-cut a b whole o.apart o.item together ne (next sp) o.leads).0) (canonical_fixed (a ∷ beyond a b whole) ap_.0)

      -- the right part is the ring of its items
      pub ring_right : (c : ℕ) → IsIn c right → (ring changed c ≡ right) × IsRingOf changed c (ring changed c)
      ring_right c i = let o = R.rings a a_there in let ap_ = IsApart-cut a b whole o.apart o.item together ne in
          ring_of changed changed_bound c right (part c right i (λ x j. omega (arith, cut_items x)) ap_.1 (IsRing-cut a b whole o.apart o.item together ne (next sp) o.leads).1) (canonical_fixed (b ∷ between a b whole) ap_.1)

      -- a code of another ring keeps its ring
      pub ring_beside : (c : ℕ) → live sp c ≡ true → count c whole ≡ 0 → (ring changed c ≡ ring sp c) × IsRingOf changed c (ring changed c)
      ring_beside c h n =
          let out : (x : ℕ) → IsIn x whole → count x (ring sp c) ≡ 0 = λ x i. elim (IsIn_or_not x (ring sp c)) [
            | inl j ↦ let e = ring_meet sp R a c x a_there h i j in let k : IsIn c whole = subst (IsIn c) (sym e) (R.rings c h).item in absurd (omega arith)
            | inr m ↦ m
          ] in
          other_ring c h (out a (R.rings a a_there).item) (out b together)

      -- the rings are rings once one is cut
      pub AreRings-cut : AreRings changed
      AreRings-cut = record {
        bound = changed_bound;
        rings = λ c h. elim (IsIn_or_not c left) [
          | inl i ↦ (ring_left c i).1
          | inr n ↦ elim (IsIn_or_not c right) [
            | inl j ↦ (ring_right c j).1
            | inr m ↦ (ring_beside c (sym (live-spliced sp a b c) ∙ h) (omega (arith, cut_items c))).1
          ]
        ];
        mates = λ d h. live-spliced sp a b (mate d) ∙ R.mates d (sym (live-spliced sp a b d) ∙ h);
      }

    -- a and b stand in two rings, with one label
    module _ (apart : count b (ring sp a) ≡ 0) (one : label sp b ≡ label sp a) where
      -- no code stands in both rings: it would stand there twice
      no_both : (x : ℕ) → IsIn x (ring sp a) → IsIn x (ring sp b) → count x (ring sp a) ≡ 2
      no_both x i j = let e = ring_meet sp R a b x a_there b_there i j in let k : IsIn b (ring sp a) = subst (IsIn b) (sym e) (R.rings b b_there).item in absurd (omega arith)

      -- the two rings have no repeats between them
      both_apart : IsApart (ring sp a ++ ring sp b)
      both_apart x = elim (IsIn_or_not x (ring sp a)) [
        | inl i ↦ elim (IsIn_or_not x (ring sp b)) [
          | inl j ↦ absurd (omega (arith, no_both x i j, (R.rings a a_there).apart x))
          | inr m ↦ omega (arith, (R.rings a a_there).apart x, count-append x (ring sp a) (ring sp b))
        ]
        | inr n ↦ omega (arith, (R.rings b b_there).apart x, count-append x (ring sp a) (ring sp b))
      ]

      abbrev joint : List ℕ
      joint = joined a b (ring sp a) (ring sp b)

      -- the joint ring has the items of the two
      pub join_items : (x : ℕ) → count x joint ≡ count x (ring sp a) + count x (ring sp b)
      join_items x = count-joined a b (ring sp a) (ring sp b) both_apart (R.rings a a_there).item (R.rings b b_there).item x

      -- the joint ring has no repeats
      joint_apart : IsApart joint
      joint_apart = IsApart-joined a b (ring sp a) (ring sp b) both_apart (R.rings a a_there).item (R.rings b b_there).item

      -- the items of the joint ring are live, and have the label of a
      joint_item : (x : ℕ) → IsIn x joint → (live sp x ≡ true) × (label sp x ≡ label sp a)
      joint_item x i = elim (IsIn_or_not x (ring sp a)) [
        | inl j ↦ ((R.rings a a_there).awake x j, (R.rings a a_there).one_label x j)
        | inr n ↦ let j : IsIn x (ring sp b) = omega (arith, join_items x) in ((R.rings b b_there).awake x j, (R.rings b b_there).one_label x j ∙ one)
      ]

      -- the joint ring is the ring of its items
      pub ring_joint : (c : ℕ) → IsIn c joint → (ring changed c ≡ joint) × IsRingOf changed c (ring changed c)
      ring_joint c i = ring_of changed changed_bound c joint (record {
        leads = leads_in_new joint (λ x j. (joint_item x j).0) (IsRing-join a b (ring sp a) (ring sp b) both_apart (R.rings a a_there).item (R.rings b b_there).item (next sp) (R.rings a a_there).leads (R.rings b b_there).leads);
        apart = joint_apart;
        item = i;
        awake = λ x j. live-spliced sp a b x ∙ (joint_item x j).0;
        one_label = λ x j. label-spliced sp a b x ∙ (joint_item x j).1 ∙ sym (label-spliced sp a b c ∙ (joint_item c i).1);
      }) (canonical_fixed ((a ∷ rest b (ring sp b)) ++ b ∷ rest a (ring sp a)) joint_apart)

      -- a code of another ring keeps its ring
      pub ring_aside : (c : ℕ) → live sp c ≡ true → count c joint ≡ 0 → (ring changed c ≡ ring sp c) × IsRingOf changed c (ring changed c)
      ring_aside c h n =
          let out : (d : ℕ) → live sp d ≡ true → count c (ring sp d) ≡ 0 → count d (ring sp c) ≡ 0 = λ d k m. elim (IsIn_or_not d (ring sp c)) [
            | inl j ↦ let e = ring_same sp R c d h j in let q : IsIn c (ring sp d) = subst (IsIn c) (sym e) (R.rings c h).item in absurd (omega arith)
            | inr m ↦ m
          ] in
          other_ring c h (out a a_there (omega (arith, join_items c))) (out b b_there (omega (arith, join_items c)))

      -- the rings are rings once two are joined
      pub AreRings-join : AreRings changed
      AreRings-join = record {
        bound = changed_bound;
        rings = λ c h. elim (IsIn_or_not c joint) [
          | inl i ↦ (ring_joint c i).1
          | inr n ↦ (ring_aside c (sym (live-spliced sp a b c) ∙ h) n).1
        ];
        mates = λ d h. live-spliced sp a b (mate d) ∙ R.mates d (sym (live-spliced sp a b d) ∙ h);
      }
