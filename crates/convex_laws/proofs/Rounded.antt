-- A relation that holds from the start of each half-edge of a closed path to its end is nowhere strict.
use Rattle.convex_laws.proofs.Prelude.{ℕ, List, [], ◌∷◌, subst, arith, inl, inr, eqb_tells, Point, IsIn, Model, IsIn_head, IsIn_rest, tick_other, finish, start, IsClosed, IsPathTo, begins}

-- an order of some points, and when it is strict
pub record Order (Good : Point → Type 0) (Le Lt : Point → Point → Type 0) : Type 0 where
  pub same : (a : Point) → Good a → Le a a
  pub on : (a b c : Point) → Good a → Good b → Good c → Le a b → Le b c → Le a c
  pub sooner : (a b c : Point) → Good a → Good b → Good c → Lt a b → Le b c → Lt a c
  pub later : (a b c : Point) → Good a → Good b → Good c → Le a b → Lt b c → Lt a c
  pub never : (a : Point) → Lt a a → ⊥

module _ (M : Model) (Good : Point → Type 0) (Le Lt : Point → Point → Type 0) (order : Order Good Le Lt) where
  -- each half-edge starts at one of these points, and doesn't lead back
  abbrev pub Leads : List ℕ → Type 0
  Leads hs = (h : ℕ) → IsIn h hs → Good (start M h) × Le (start M h) (finish M h)

  rest_leads : (h : ℕ) (hs : List ℕ) → Leads (h ∷ hs) → Leads hs
  rest_leads h hs leads x i = leads x (IsIn_rest x h hs i)

  good_begins : (hs : List ℕ) (e : Point) → Good e → Leads hs → Good (begins M hs e)
  good_begins [] e good leads = good
  good_begins (h ∷ hs) e good leads = (leads h (IsIn_head h hs)).0

  path_leads : (hs : List ℕ) (e : Point) → IsPathTo M hs e → Good e → Leads hs → Le (begins M hs e) e
  path_leads [] e path good leads = order.same e good
  path_leads (h ∷ hs) e path good leads =
      let here = leads h (IsIn_head h hs) in let rest = rest_leads h hs leads in
      order.on (start M h) (begins M hs e) e here.0 (good_begins hs e good rest) good (subst (Le (start M h)) path.0 here.1) (path_leads hs e path.1 good rest)

  path_strict : (hs : List ℕ) (e : Point) → IsPathTo M hs e → Good e → Leads hs → (x : ℕ) → IsIn x hs → Lt (start M x) (finish M x) → Lt (begins M hs e) e
  path_strict [] e path good leads x i more = absurd (omega (arith, i))
  path_strict (h ∷ hs) e path good leads x i more =
      let here = leads h (IsIn_head h hs) in let rest = rest_leads h hs leads in let then_good = good_begins hs e good rest in
      elim (eqb_tells x h) [
        | inl is ↦ order.sooner (start M h) (begins M hs e) e here.0 then_good good (subst (Lt (start M h)) path.0 (subst (λ y. Lt (start M y) (finish M y)) is.1 more)) (path_leads hs e path.1 good rest)
        | inr ne ↦ order.later (start M h) (begins M hs e) e here.0 then_good good (subst (Le (start M h)) path.0 here.1) (path_strict hs e path.1 good rest x (omega (arith, i, tick_other x h ne.1)) more)
      ]

  pub closed_never_strict : (hs : List ℕ) → IsClosed M hs → Leads hs → (x : ℕ) → IsIn x hs → Lt (start M x) (finish M x) → ⊥
  closed_never_strict [] closed leads x i more = absurd (omega (arith, i))
  closed_never_strict (h ∷ hs) closed leads x i more = order.never (start M h) (path_strict (h ∷ hs) (start M h) closed (leads h (IsIn_head h hs)).0 leads x i more)
