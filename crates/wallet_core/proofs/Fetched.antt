-- The files that were fetched, and those that were not.
use Rattle.std.proofs.Common.{◌≡◌, Global, String, ℕ, zero, suc, ◌+◌, ◌<◌, List, [], ◌∷◌, ◌++◌, length, take, map, get_or, add-one, Option, Some, sym, ap, subst, ◌∙◌, arith, string_bytes}
use Rattle.std.proofs.Math.Seq.{take-suc}
use Rattle.std.proofs.lemmas.Slice.Zip.{all_zipped_more}
use Rattle.std.specs.List.{AllZip}
use Rattle.sd_outside.specs.Lists.{StandsAt}
use Rattle.sd_outside.proofs.Lists.{At-map, At-get_or}
use Rattle.cli_parts.specs.Runs.{IsFetched, MissesWord}
use Rattle.cli_parts.specs.Stops.{OnUnread}
use Rattle.cli_parts.specs.declared.stop.Stop.{Stop}
use Rattle.cli_parts.specs.declared.stop.Stop.TheVariants.{Memory, Unread, Unreadable, Refused}

pub fetched_turn : (holds : List ℕ → Option (List ℕ)) (names : List (List ℕ)) (k : ℕ) (name : List ℕ) (files : List (List ℕ)) (file : List ℕ) → k < length names → name ≡ get_or names k name
    → AllZip (IsFetched holds) (take k names) files → IsFetched holds name file → AllZip (IsFetched holds) (take (k + 1) names) (files ++ file ∷ [])
fetched_turn holds names k name files file within is all one =
    let more : take (k + 1) names ≡ take k names ++ name ∷ [] = rw add-one (take-suc names k name within) ∙ ap (λ (y : List ℕ). take k names ++ y ∷ []) (sym is) in
    subst (λ (ns : List (List ℕ)). AllZip (IsFetched holds) ns (files ++ file ∷ [])) (sym more) (all_zipped_more (IsFetched holds) (take k names) files name file all one)

pub all_fetched_as : (holds other : List ℕ → Option (List ℕ)) → ((name : List ℕ) → holds name ≡ other name) → (names files : List (List ℕ)) → AllZip (IsFetched holds) names files → AllZip (IsFetched other) names files
all_fetched_as holds other same [] [] h = tt
all_fetched_as holds other same [] (f ∷ files) h = absurd h
all_fetched_as holds other same (n ∷ names) [] h = absurd h
all_fetched_as holds other same (n ∷ names) (f ∷ files) h = (rw (sym (same n)) h.0, all_fetched_as holds other same names files h.1)

pub missed_at : (names : List (List ℕ)) (k : ℕ) (name : List ℕ) (missed : Option (List ℕ)) → StandsAt names k name → (stop : Stop) → OnUnread stop (λ word. word ≡ k + 1) → OnUnread stop (λ _. missed ≡ Some name)
    → OnUnread stop (λ word. (query : List ℕ) → MissesWord (query ∷ names) word missed)
missed_at names k name missed stands Memory is named = tt
missed_at names k name missed stands (Unread word) is named =
    let turned : suc k ≡ word = omega (arith, is) in
    λ query. (name, subst (λ (n : ℕ). StandsAt (query ∷ names) n name) turned stands, named)
missed_at names k name missed stands (Unreadable text) is named = tt
missed_at names k name missed stands (Refused text) is named = tt

-- ---- the name of a word

pub named_at : (words : List (String Global)) (k : ℕ) (word : String Global) (name : List ℕ) → k < length words → word ≡ get_or words k word → name ≡ string_bytes word → StandsAt (map string_bytes words) k name
named_at words k word name within is same =
    subst (λ (n : List ℕ). StandsAt (map string_bytes words) k n) (sym same)
    (At-map string_bytes words k word (subst (λ (w : String Global). StandsAt words k w) (sym is) (At-get_or words k word within)))

there_got : (names : List (List ℕ)) (k : ℕ) (name : List ℕ) → StandsAt names k name → name ≡ get_or names k name
there_got [] k name h = absurd h
there_got (n ∷ names) zero name h = h
there_got (n ∷ names) (suc k) name h = there_got names k name h

pub named_there : (words : List (String Global)) (k : ℕ) (word : String Global) (name : List ℕ) → k < length words → word ≡ get_or words k word → name ≡ string_bytes word → name ≡ get_or (map string_bytes words) k name
named_there words k word name within is same = there_got (map string_bytes words) k name (named_at words k word name within is same)
