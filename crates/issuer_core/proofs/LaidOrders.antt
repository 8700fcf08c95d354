-- An order that is laid with the salts of a seed.
use Rattle.std.proofs.Common.{◌≡◌, ℕ, zero, suc, ◌+◌, ◌<◌, ◌≤◌, List, [], ◌∷◌, ◌++◌, length, map, drop, Option, Some, refl, sym, ap, ap₂, subst, ◌∙◌, arith}
use Rattle.std.specs.List.{slice_get}
use Rattle.std.proofs.lemmas.List.{length-append, length-map, length-drop}
use Rattle.claim_tree.specs.Tree.{Text, Tree, leaf, text}
use Rattle.sd_outside.specs.Lists.{StandsAt}
use Rattle.digest_sites.specs.Given.{Given}
use Rattle.disclosure.specs.Digest.{digest_of}
use Rattle.disclosure.specs.Disclosure.{disclosure_text}
use Rattle.disclosure.specs.declared.digests.HashAlg.{HashAlg}
use Rattle.marked_tree.specs.Paths.{Path}
use Rattle.issuer_core.specs.Order.{Order}
use Rattle.issuer_core.specs.Decoys.{decoys_of}
use Rattle.issuer_core.specs.Digests.{hidden_of, marked_claims, made_texts}
use Rattle.issuer_core.specs.Laid.{lay, laid_given, order_decoys}
use Rattle.issuer_core.specs.Salts.{salt_of}
use Rattle.issuer_core.specs.Seed.{maker_of}
use Rattle.issuer_core.specs.Laying.{nth, digest_at, salted, digests_on_path, IsLaidWith, IsLaidFor}
use Rattle.issuer_core.proofs.LayingSteps.{Made, nth_got, made_length}
use Rattle.issuer_core.proofs.SortedEntries.{placed_numbered}

nth_before : (ts us : List Text) (k : ℕ) → k < length ts → nth (ts ++ us) k ≡ nth ts k
nth_before [] us k l = absurd (omega (arith, l))
nth_before (t ∷ ts) us zero l = refl
nth_before (t ∷ ts) us (suc k) l = nth_before ts us k (omega (arith, l))

nth_behind : (ts us : List Text) (k : ℕ) → nth (ts ++ us) (length ts + k) ≡ nth us k
nth_behind [] us k = let none : 0 + k ≡ k = omega arith in ap (nth us) none
nth_behind (t ∷ ts) us k = let more : suc (length ts) + k ≡ suc (length ts + k) = omega arith in rw more (nth_behind ts us k)

nth_drop : (ts : List Text) (n k : ℕ) → nth (drop n ts) k ≡ nth ts (n + k)
nth_drop ts zero k = let none : 0 + k ≡ k = omega arith in ap (nth ts) (sym none)
nth_drop [] (suc n) k = refl
nth_drop (t ∷ ts) (suc n) k = let more : suc n + k ≡ suc (n + k) = omega arith in rw more (nth_drop ts n k)

nth_map : (hash : HashAlg) (ts : List Text) (k : ℕ) → k < length ts → nth (map (digest_of hash) ts) k ≡ digest_at hash ts k
nth_map hash [] k l = absurd (omega (arith, l))
nth_map hash (t ∷ ts) zero l = refl
nth_map hash (t ∷ ts) (suc k) l = nth_map hash ts k (omega (arith, l))

made_same : (f g : Made) (k n : ℕ) (xs : List Given) → k + length xs ≤ n → ((j : ℕ) → j < n → (name : Option Text) (value : Tree) → f j name value ≡ g j name value) → made_texts f k xs ≡ made_texts g k xs
made_same f g k n [] l same = refl
made_same f g k n (x ∷ xs) l same = ap₂ (λ (t : Text) (ts : List Text). t ∷ ts) (same k (omega (arith, l)) x.name x.value) (made_same f g (suc k) n xs (omega (arith, l)) same)

made_at : (f : Made) (n : ℕ) (xs : List Given) (k : ℕ) (x : Given) → StandsAt xs k x → (k < length xs) × (nth (made_texts f n xs) k ≡ f (n + k) x.name x.value)
made_at f n [] k x a = elim a [ ]
made_at f n (y ∷ xs) zero x a = let none : n + 0 ≡ n = omega arith in (omega arith, rw (none, a) refl)
made_at f n (y ∷ xs) (suc k) x a =
    let rest = made_at f (suc n) xs k x a in
    let more : suc n + k ≡ n + suc k = omega arith in
    (omega (arith, rest.0), rest.1 ∙ ap (λ j. f j x.name x.value) more)

digests_at : (hash : HashAlg) (ts us : List Text) (k : ℕ) (d : Text) → StandsAt (map (digest_of hash) ts ++ map (digest_of hash) us) k d → d ≡ digest_at hash (ts ++ us) k
digests_at hash [] [] k d a = elim a [ ]
digests_at hash [] (u ∷ us) zero d a = a
digests_at hash [] (u ∷ us) (suc k) d a = digests_at hash [] us k d a
digests_at hash (t ∷ ts) us zero d a = a
digests_at hash (t ∷ ts) us (suc k) d a = digests_at hash ts us k d a

module _ (seed : List ℕ) (o : Order) (salts texts digests : List Text) (body : Tree)
    (many : length salts ≡ hidden_of o + length (decoys_of o))
    (each : (k : ℕ) → k < length salts → Some (salt_of seed k) ≡ slice_get salts k)
    (h : IsLaidWith o.hash salts (hidden_of o) (decoys_of o) (marked_claims o) body texts digests)
  where
    abbrev pieces : List Text
    pieces = drop (hidden_of o) salts

    abbrev dg : ℕ → Text
    dg = digest_at o.hash (texts ++ pieces)

    salt_is : (k : ℕ) → k < length salts → nth salts k ≡ salt_of seed k
    salt_is k l = nth_got salts k (salt_of seed k) (each k l)

    pieces_many : length pieces ≡ length (decoys_of o)
    pieces_many = let d = length-drop (hidden_of o) salts in omega (arith, d, many)

    piece_at : (k : ℕ) → nth (texts ++ pieces) (hidden_of o + k) ≡ nth pieces k
    piece_at k = ap (λ n. nth (texts ++ pieces) (n + k)) (sym h.count) ∙ nth_behind texts pieces k

    tells : (q : Path) → digests_on_path (decoys_of o) (map (digest_of o.hash) pieces) q ≡ order_decoys o dg q
    tells q =
        placed_numbered (decoys_of o) (map (digest_of o.hash) pieces) dg (hidden_of o) (length-map pieces (digest_of o.hash) ∙ pieces_many)
        (λ k l. nth_map o.hash pieces k (let m = pieces_many in omega (arith, m, l)) ∙ ap (digest_of o.hash) (sym (piece_at k))) q

    abbrev given : List Given
    given = laid_given (order_decoys o dg) dg (marked_claims o)

    texts_are : texts ≡ made_texts (maker_of seed).disclosure 0 given
    texts_are =
        let first = h.made (order_decoys o dg) tells pieces in
        let count = h.count in
        let long : length given ≡ length texts = sym (ap length first ∙ made_length (salted salts) 0 given) in
        first ∙ made_same (salted salts) (maker_of seed).disclosure 0 (length salts) given (omega (arith, long, count, many)) (λ j l name value. ap (λ s. disclosure_text (leaf (text s)) name value) (salt_is j l))

    disclosed : (k : ℕ) (x : Given) → StandsAt given k x → dg k ≡ digest_of o.hash ((maker_of seed).disclosure k x.name x.value)
    disclosed k x a =
        let none : 0 + k ≡ k = omega arith in
        let there = made_at (maker_of seed).disclosure 0 given k x a in
        let within : k < length texts = let long = ap length texts_are ∙ made_length (maker_of seed).disclosure 0 given in let low = there.0 in omega (arith, long, low) in
        ap (digest_of o.hash) (nth_before texts pieces k within ∙ (ap (λ ts. nth ts k) texts_are ∙ (there.1 ∙ ap (λ j. (maker_of seed).disclosure j x.name x.value) none)))

    pub order_laid : IsLaidFor (maker_of seed) o body texts digests
    order_laid = record {
      laid = lay (order_decoys o dg) dg (marked_claims o);
      given = given;
      dg = dg;
      is_laid = record {
        payload_laid = refl;
        given_laid = refl;
        disclosures = disclosed;
        decoys = λ d l. ap (digest_of o.hash) (piece_at d ∙ (nth_drop salts (hidden_of o) d ∙ salt_is (hidden_of o + d) (omega (arith, l, many))));
      };
      payload_is = h.laid (order_decoys o dg) tells pieces;
      texts_are = texts_are;
      count =
          let all = ap length h.digests_are in
          let a = length-append (map (digest_of o.hash) texts) (map (digest_of o.hash) pieces) in
          let b = length-map texts (digest_of o.hash) in
          let c = length-map pieces (digest_of o.hash) in
          let m = pieces_many in
          let count = h.count in
          omega (arith, all, a, b, c, m, count);
      each = λ k d at. digests_at o.hash texts pieces k d (subst (λ (ds : List Text). StandsAt ds k d) h.digests_are at);
    }
