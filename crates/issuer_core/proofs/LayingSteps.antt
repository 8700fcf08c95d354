-- The texts of disclosures, some more at each step.
use Rattle.std.proofs.Common.{◌≡◌, ℕ, zero, suc, ◌+◌, List, [], ◌∷◌, ◌++◌, length, map, drop, append_assoc, Option, Some, refl, sym, ap, subst, ◌∙◌, arith}
use Rattle.std.specs.List.{slice_get}
use Rattle.std.proofs.lemmas.List.{length-append}
use Rattle.claim_tree.specs.Tree.{Text, Tree}
use Rattle.digest_sites.specs.Given.{Given}
use Rattle.disclosure.specs.Digest.{digest_of}
use Rattle.disclosure.specs.declared.digests.HashAlg.{HashAlg}
use Rattle.marked_tree.specs.Marked.{Marked}
use Rattle.marked_tree.specs.Paths.{Path}
use Rattle.issuer_core.specs.Laid.{laid_given, own_given, lay}
use Rattle.issuer_core.specs.Digests.{made_texts}
use Rattle.issuer_core.specs.Laying.{nth, digest_at, salted, DecoysTell, IsLaidNode}
use Rattle.issuer_core.specs.Closing.{HasNumber}
use Rattle.issuer_core.specs.declared.decoys.Decoys.{Decoys}
use Rattle.issuer_core.specs.declared.laying.Hiding.{Hiding}
use Rattle.issuer_core.specs.declared.laying.LaidNode.{LaidNode}

-- ---- texts by their numbers

pub nth_seam : (ts : List Text) (t : Text) (us : List Text) → nth (ts ++ t ∷ us) (length ts) ≡ t
nth_seam [] t us = refl
nth_seam (x ∷ ts) t us = nth_seam ts t us

pub nth_got : (ts : List Text) (k : ℕ) (t : Text) → Some t ≡ slice_get ts k → nth ts k ≡ t
nth_got [] k t e = cc
nth_got (x ∷ ts) zero t e = cc
nth_got (x ∷ ts) (suc k) t e = nth_got ts k t e

got_drop : (ts : List Text) (k : ℕ) (t : Text) → Some t ≡ slice_get ts k → t ∷ drop (k + 1) ts ≡ drop k ts
got_drop [] k t e = cc
got_drop (x ∷ ts) zero t e = let same : t ≡ x = cc in ap (λ (y : Text). y ∷ ts) same
got_drop (x ∷ ts) (suc k) t e = let more : suc k + 1 ≡ suc (k + 1) = omega arith in rw more (got_drop ts k t e)

pub digested_further : (hash : HashAlg) (old ts : List Text) (k : ℕ) (t : Text) → Some t ≡ slice_get ts k → (old ++ digest_of hash t ∷ []) ++ map (digest_of hash) (drop (k + 1) ts) ≡ old ++ map (digest_of hash) (drop k ts)
digested_further hash old ts k t e = append_assoc old (digest_of hash t ∷ []) (map (digest_of hash) (drop (k + 1) ts)) ∙ ap (λ (xs : List Text). old ++ map (digest_of hash) xs) (got_drop ts k t e)

abbrev pub Made : Type 0
Made = ℕ → Option Text → Tree → Text

pub made_length : (f : Made) (k : ℕ) (xs : List Given) → length (made_texts f k xs) ≡ length xs
made_length f k [] = refl
made_length f k (x ∷ xs) = ap suc (made_length f (suc k) xs)

pub made_split : (f : Made) (k : ℕ) (xs ys : List Given) → made_texts f k (xs ++ ys) ≡ made_texts f k xs ++ made_texts f (k + length xs) ys
made_split f k [] ys = let none : k + 0 ≡ k = omega arith in rw none refl
made_split f k (x ∷ xs) ys =
    let more : suc k + length xs ≡ k + suc (length xs) = omega arith in
    ap (λ (ts : List Text). f k x.name x.value ∷ ts) (made_split f (suc k) xs ys ∙ ap (λ n. made_texts f (suc k) xs ++ made_texts f n ys) more)

-- texts with those of some more disclosures, and then of others
pub grown : (f : Made) (old new : List Text) (ps qs : List Given) → new ≡ old ++ made_texts f (length old) ps → new ++ made_texts f (length new) qs ≡ old ++ made_texts f (length old) (ps ++ qs)
grown f old new ps qs e =
    let long : length new ≡ length old + length ps = ap length e ∙ (length-append old (made_texts f (length old) ps) ∙ ap (λ n. length old + n) (made_length f (length old) ps)) in
    ap (λ n. new ++ made_texts f n qs) long
    ∙ (ap (λ (ts : List Text). ts ++ made_texts f (length old + length ps) qs) e
    ∙ (append_assoc old (made_texts f (length old) ps) (made_texts f (length old + length ps) qs)
    ∙ ap (λ (ts : List Text). old ++ ts) (sym (made_split f (length old) ps qs))))

-- more behind what has grown
pub behind : (old new added more : List Text) → new ≡ old ++ added → old ++ (added ++ more) ≡ new ++ more
behind old new added more e = sym (ap (λ (ts : List Text). ts ++ more) e ∙ append_assoc old added more)

-- the texts that a part adds
abbrev pub IsMade : Decoys → Hiding → Option Text → Option ℕ → Marked → List Text → List Text → Type 0
IsMade decoys hiding name k m old new =
    (dec : Path → List Text) → DecoysTell decoys dec → (more : List Text)
    → new ≡ old ++ made_texts (salted hiding.salts.now) (length old) (laid_given dec (digest_at hiding.hash (new ++ more)) m ++ own_given (digest_at hiding.hash (new ++ more)) name k (lay dec (digest_at hiding.hash (new ++ more)) m))

-- ---- one part

-- a part that is hidden: its inside is laid, and its text is behind those inside it
module _ (decoys : Decoys) (hiding : Hiding) (name : Option Text) (k : Option ℕ) (m : Marked) (i : ℕ) (inside : Tree) (texts texts2 texts3 : List Text)
    (is : k ≡ Some i)
    (laid : (dec : Path → List Text) → DecoysTell decoys dec → (more : List Text) → inside ≡ lay dec (digest_at hiding.hash (texts2 ++ more)) m)
    (made : (dec : Path → List Text) → DecoysTell decoys dec → (more : List Text) → texts2 ≡ texts ++ made_texts (salted hiding.salts.now) (length texts) (laid_given dec (digest_at hiding.hash (texts2 ++ more)) m))
    (own : texts3 ≡ texts2 ++ salted hiding.salts.now (length texts2) name inside ∷ [])
  where
    pub hidden_part : (digest_is : Text) → digest_is ≡ digest_of hiding.hash (salted hiding.salts.now (length texts2) name inside) → HasNumber k (length texts2) → (more : List Text) → (dec : Path → List Text) → IsLaidNode dec (digest_at hiding.hash (texts3 ++ more)) k m (LaidNode.Hidden digest_is)
    hidden_part d e n more dec =
        let numbered : i ≡ length texts2 = subst (λ j. HasNumber j (length texts2)) is n in
        let there : texts3 ++ more ≡ texts2 ++ salted hiding.salts.now (length texts2) name inside ∷ more = sym (behind texts2 texts3 (salted hiding.salts.now (length texts2) name inside ∷ []) more own) in
        let found : d ≡ digest_at hiding.hash (texts3 ++ more) i = e ∙ (ap (digest_of hiding.hash) (sym (nth_seam texts2 (salted hiding.salts.now (length texts2) name inside) more)) ∙ (ap (λ (ts : List Text). digest_at hiding.hash ts (length texts2)) (sym there) ∙ ap (digest_at hiding.hash (texts3 ++ more)) (sym numbered))) in
        subst (λ j. IsLaidNode dec (digest_at hiding.hash (texts3 ++ more)) j m (LaidNode.Hidden d)) (sym is) found

    pub hidden_made : IsMade decoys hiding name k m texts texts3
    hidden_made dec tells more =
        let own_text = salted hiding.salts.now (length texts2) name inside in
        let there : texts2 ++ (own_text ∷ more) ≡ texts3 ++ more = behind texts2 texts3 (own_text ∷ []) more own in
        let dg : ℕ → Text = digest_at hiding.hash (texts3 ++ more) in
        let inner = subst (λ (ts : List Text). texts2 ≡ texts ++ made_texts (salted hiding.salts.now) (length texts) (laid_given dec (digest_at hiding.hash ts) m)) there (made dec tells (own_text ∷ more)) in
        let shown = subst (λ (ts : List Text). inside ≡ lay dec (digest_at hiding.hash ts) m) there (laid dec tells (own_text ∷ more)) in
        let item = own_given (digest_at hiding.hash (texts3 ++ more)) name (Some i) (lay dec (digest_at hiding.hash (texts3 ++ more)) m) in
        subst (λ j. texts3 ≡ texts ++ made_texts (salted hiding.salts.now) (length texts) (laid_given dec (digest_at hiding.hash (texts3 ++ more)) m ++ own_given (digest_at hiding.hash (texts3 ++ more)) name j (lay dec (digest_at hiding.hash (texts3 ++ more)) m))) (sym is)
        (own ∙ (ap (λ (t : Tree). texts2 ++ salted hiding.salts.now (length texts2) name t ∷ []) shown ∙ grown (salted hiding.salts.now) texts texts2 (laid_given dec (digest_at hiding.hash (texts3 ++ more)) m) item inner))
