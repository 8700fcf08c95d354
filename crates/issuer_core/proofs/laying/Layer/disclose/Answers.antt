use Rattle.std.proofs.Common.{◌≡◌, ℕ, ◌∷◌, [], ◌++◌, List, Option, Some, length, sym, ap, ◌∙◌, option_map}
use Rattle.std.specs.List.{slice_get}
use Rattle.claim_tree.specs.Tree.{Text, Tree, leaf, text}
use Rattle.claim_tree.specs.View.{tree_of}
use Rattle.disclosure.specs.Digest.{digest_of}
use Rattle.disclosure.specs.Disclosure.{disclosure_text}
use Rattle.issuer_core.specs.Laying.{nth, salted}
use Rattle.issuer_core.proofs.LayingSteps.{nth_got}
use Rattle.issuer_core.proofs.laying.Layer.disclose.Goals as goal

by_salt : (salts texts : List Text) (k : ℕ) (salt got made : Text) (name : Option Text) (value : Tree) → k ≡ length texts → Some got ≡ slice_get salts k → salt ≡ got
    → made ≡ disclosure_text (leaf (text salt)) name value → made ≡ salted salts (length texts) name value
by_salt salts texts k salt got made name value long there same is =
    let found : nth salts k ≡ got = nth_got salts k got there in
    is ∙ ap (λ s. disclosure_text (leaf (text s)) name value) (same ∙ (sym found ∙ ap (nth salts) long))

pub returns-clause-text : goal.returns-clause-text
returns-clause-text c =
    let made = by_salt c.args.hiding.salts.now c.args.self.now.texts c.len.result c.as_str.result.now c.in-Some.salt.now c.in_ok-text.text (option_map (λ n. n.now) c.args.name) (tree_of c.args.value)
    c.len.ensures c.in-Some.ensures c.as_str.ensures c.in_ok-text.ensures.text in
    c.in_ok-push.ensures.ok ∙ ap (λ (t : Text). c.args.self.now.texts ++ t ∷ []) made

pub returns-clause-digest : goal.returns-clause-digest
returns-clause-digest c =
    let made = by_salt c.args.hiding.salts.now c.args.self.now.texts c.len.result c.as_str.result.now c.in-Some.salt.now c.in_ok-text.text (option_map (λ n. n.now) c.args.name) (tree_of c.args.value)
    c.len.ensures c.in-Some.ensures c.as_str.ensures c.in_ok-text.ensures.text in
    c.in_ok-made.ensures ∙ ap (digest_of c.args.hiding.hash) (c.as_str-2.ensures ∙ made)
