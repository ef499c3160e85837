-- The vertices at which section edges meet.
use Rattle.split_sections.proofs.Prelude.{◌≡◌, ℕ, ◌+◌, ◌≤◌, ◌<◌, false, nat_lt, List, [], ◌∷◌, map, length, slice_index_or, Option, Some, None, is_some, refl, sym, ap, subst, ◌∙◌, arith, true≢false, ◌⊎◌, inl, inr, nat_tests, Point, count, IsIn, HalfEdge, code, mate, Model, tail, Sound, HasHalf, Has, tick_same, count-append, IsIn_or_not, from_map, mate_there, AllAbove, all_above_members, IsLeast, one_least, least_same, least_row, section_ends, least_branched, others, parts, AreBalanced}
use Rattle.euler_operators.specs.Table as table
use Rattle.solid_walks.proofs.face_walks_laws.TableWalks.{passes, member_passing}
use Rattle.split_sections.specs.Common.{AreThere}
use Rattle.split_sections.proofs.section_cycles_laws.Started.{several}

-- ---- the half-edges of a list, one by one

pub first_there : (M : Model) (hs : List HalfEdge) (d : HalfEdge) → 1 ≤ length hs → AreThere M (map code hs) → HasHalf M (code (slice_index_or hs 0 d))
first_there M hs d l t = t (code (slice_index_or hs 0 d)) (subst (λ (ks : List HalfEdge). IsIn (code (slice_index_or hs 0 d)) (map code ks)) (sym (parts hs d l)) (omega (arith, tick_same (code (slice_index_or hs 0 d)))))

pub others_there : (M : Model) (hs : List HalfEdge) (d : HalfEdge) → 1 ≤ length hs → AreThere M (map code hs) → AreThere M (map code (others hs))
others_there M hs d l t b i = t b (subst (λ (ks : List HalfEdge). IsIn b (map code ks)) (sym (parts hs d l)) (omega (arith, i)))

pub first_code : (hs : List HalfEdge) (d : HalfEdge) → 1 ≤ length hs → map code hs ≡ code (slice_index_or hs 0 d) ∷ map code (others hs)
first_code hs d l = ap (λ (ks : List HalfEdge). map code ks) (parts hs d l)

pub no_more : (hs : List HalfEdge) → length hs < 1 → map code hs ≡ []
no_more [] l = refl
no_more (h ∷ hs) l = absurd (omega (arith, l))

-- ---- their ends

module _ (M : Model) (sound : Sound M) (bs : List ℕ) (there : AreThere M bs) where
  end_there : (v : ℕ) → IsIn v (section_ends M bs) → Has M.vertices v
  end_there v i = elim (either (count v (map (tail M) bs)) (count v (map (λ b. tail M (mate b)) bs)) (omega (arith, i, count-append v (map (tail M) bs) (map (λ b. tail M (mate b)) bs)))) [
    | inl j ↦ let r = from_map (tail M) v bs j in subst (Has M.vertices) (sym r.2) (sound.tails_there r.0 (there r.0 r.1))
    | inr j ↦ let r = from_map (λ b. tail M (mate b)) v bs j in subst (Has M.vertices) (sym r.2) (sound.tails_there (mate r.0) (mate_there M r.0 (there r.0 r.1)))
  ] where
    either : (m n : ℕ) → 1 ≤ m + n → (1 ≤ m) ⊎ (1 ≤ n)
    either m n l = grind arith

  none_often : (n : ℕ) → n ≡ 0 → nat_lt 2 n ≡ false
  none_often n e = ap (nat_lt 2) e

  there_or_not : (v : ℕ) (o : Option Point) → table.get M.vertices v ≡ o → passes (λ v _. nat_lt 2 (count v (section_ends M bs))) v o ≡ nat_lt 2 (count v (section_ends M bs))
  there_or_not v (Some p) e = refl
  there_or_not v None e = sym (none_often (count v (section_ends M bs)) (outside (IsIn_or_not v (section_ends M bs)))) where
    outside : IsIn v (section_ends M bs) ⊎ (count v (section_ends M bs) ≡ 0) → count v (section_ends M bs) ≡ 0
    outside (inl i) = absurd (true≢false (sym (end_there v i) ∙ ap (λ q. is_some q) e))
    outside (inr z) = z

  positive : AllAbove 0 (table.all_where (λ v _. nat_lt 2 (count v (section_ends M bs))) M.vertices)
  positive = grind (arith, all_above_members, member_passing, passes, nat_tests)

  branched_least : IsLeast (λ v. nat_lt 2 (count v (section_ends M bs))) (least_branched M (section_ends M bs))
  branched_least = least_same _ _ (λ v. there_or_not v (table.get M.vertices v) refl) (least_branched M (section_ends M bs)) (least_row (λ v _. nat_lt 2 (count v (section_ends M bs))) M.vertices positive)

  -- where as many start at a vertex as end there, it is the least at which more than one start
  pub branched_is : AreBalanced M bs → (o : Option ℕ) → IsLeast (several M bs) o → o ≡ least_branched M (section_ends M bs)
  branched_is same o least = one_least (several M bs) o (least_branched M (section_ends M bs)) least
      (least_same (λ v. nat_lt 2 (count v (section_ends M bs))) (several M bs) (λ v. twice (count v (map (tail M) bs)) _ (ends v)) (least_branched M (section_ends M bs)) branched_least) where
        ends : (v : ℕ) → count v (section_ends M bs) ≡ count v (map (tail M) bs) + count v (map (tail M) bs)
        ends v = omega (arith, count-append v (map (tail M) bs) (map (λ b. tail M (mate b)) bs), same v)

        twice : (n m : ℕ) → m ≡ n + n → nat_lt 2 m ≡ nat_lt 1 n
        twice n m e = grind (arith, nat_tests)
