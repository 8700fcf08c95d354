-- An order that is refused is refused in one way.
use Rattle.std.proofs.Common.{◌≡◌, ℕ, List, Some, Option, ap, ap₂, arith, refl, subst, sym, ◌∙◌}
use Rattle.claim_tree.specs.Tree.{Text}
use Rattle.sd_outside.specs.Lists.{IsLeast}
use Rattle.hmac_sign.specs.Signatures.{Meaning}
use Rattle.marked_tree.specs.Paths.{Path}
use Rattle.issuer_core.specs.declared.errors.IssueError.{IssueError}
use Rattle.issuer_core.specs.declared.errors.IssueError.TheVariants.{Memory, SignFailed, PayloadNotObject, ReservedName, TooDeep, RootMarked, NoSuchPlace, ProtectedClaim, DecoyPlace, TooManyHidden, TooManyDecoys, DigestClash, TooLong}
use Rattle.issuer_core.specs.Order.{Order}
use Rattle.issuer_core.specs.Digests.{Maker}
use Rattle.issuer_core.specs.Clash.{IsEqualAt, IsFirstClash}
use Rattle.issuer_core.specs.OrderRefusals.{issue_number, refusal_place, IsLowestRefusal}
use Rattle.issuer_core.specs.Issue.{laid_digests, ClashesAt, AppliesToIssue}
use Rattle.issuer_core.proofs.FromLaid.{one_list}
use Rattle.sd_outside.proofs.Lists.{least_one}

one_first_clash : (texts : List Text) (i j k l : ℕ) → IsFirstClash texts i j → IsFirstClash texts k l → (i ≡ k) × (j ≡ l)
one_first_clash texts i j k l this other =
    let later : j ≡ l = least_one _ j l this.later other.later in
    let earlier : IsLeast (IsEqualAt texts l) i = subst (λ q. IsLeast (IsEqualAt texts q) i) later this.earlier in
    (least_one (IsEqualAt texts l) i k earlier other.earlier, later)

module _ (maker : Maker) (o : Order) where
  one_clash : (i j k l : ℕ) → ClashesAt maker o i j → ClashesAt maker o k l → (i ≡ k) × (j ≡ l)
  one_clash i j k l this other =
      let same : laid_digests o this.digests ≡ laid_digests o other.digests = one_list maker o this.payload other.payload this.given other.given this.digests other.digests this.laid other.laid in
      one_first_clash (laid_digests o other.digests) i j k l (subst (λ (ds : List Text). IsFirstClash ds i j) same this.clash) other.clash

  one_path : (found : Option Path) (p q : Path) → found ≡ Some p → found ≡ Some q → p ≡ q
  one_path found p q e f = let same : Some p ≡ Some q = sym e ∙ f in cc same

  module _ (alg : Text) (good : Meaning) where
    -- the number and the place tell what applies
    by_number : (e f : IssueError) → AppliesToIssue maker o alg good e → AppliesToIssue maker o alg good f → issue_number e ≡ issue_number f → refusal_place e ≡ refusal_place f → e ≡ f
    by_number Memory f a b n p = absurd a
    by_number SignFailed f a b n p = absurd a
    by_number PayloadNotObject PayloadNotObject a b n p = refl
    by_number PayloadNotObject f a b n p = absurd (omega (arith, n))
    by_number (ReservedName x) (ReservedName y) a b n p = ap ReservedName (one_path _ x y a b)
    by_number (ReservedName x) f a b n p = absurd (omega (arith, n))
    by_number TooDeep TooDeep a b n p = refl
    by_number TooDeep f a b n p = absurd (omega (arith, n))
    by_number (RootMarked k) (RootMarked l) a b n p = ap RootMarked p
    by_number (RootMarked k) f a b n p = absurd (omega (arith, n))
    by_number (NoSuchPlace k) (NoSuchPlace l) a b n p = ap NoSuchPlace p
    by_number (NoSuchPlace k) f a b n p = absurd (omega (arith, n))
    by_number (ProtectedClaim k) (ProtectedClaim l) a b n p = ap ProtectedClaim p
    by_number (ProtectedClaim k) f a b n p = absurd (omega (arith, n))
    by_number (DecoyPlace k) (DecoyPlace l) a b n p = ap DecoyPlace p
    by_number (DecoyPlace k) f a b n p = absurd (omega (arith, n))
    by_number TooManyHidden TooManyHidden a b n p = refl
    by_number TooManyHidden f a b n p = absurd (omega (arith, n))
    by_number TooManyDecoys TooManyDecoys a b n p = refl
    by_number TooManyDecoys f a b n p = absurd (omega (arith, n))
    by_number (DigestClash i j) (DigestClash k l) a b n p = let same = one_clash i j k l a b in ap₂ DigestClash same.0 same.1
    by_number (DigestClash i j) f a b n p = absurd (omega (arith, n))
    by_number TooLong TooLong a b n p = refl
    by_number TooLong f a b n p = absurd (omega (arith, n))

    pub one_refusal : (e f : IssueError) → IsLowestRefusal (AppliesToIssue maker o alg good) e → IsLowestRefusal (AppliesToIssue maker o alg good) f → e ≡ f
    one_refusal e f this other =
        let up = this.lowest f other.applies in
        let down = other.lowest e this.applies in
        let numbers : issue_number e ≡ issue_number f = omega (arith, up, down) in
        let before = this.first f other.applies (sym numbers) in
        let behind = other.first e this.applies numbers in
        by_number e f this.applies other.applies numbers (omega (arith, before, behind))
