use Rattle.std.proofs.Common.{◌≡◌, List, Option, Some, Err, ap, subst, codes}
use Rattle.claim_tree.specs.Tree.{Tree, member_named}
use Rattle.claim_tree.specs.View.{tree_of}
use Rattle.claim_tree.specs.TreeValues.{Says}
use Rattle.hmac_sign.specs.Keys.{IsKeySet}
use Rattle.hmac_sign.specs.declared.key_set.NamedKey.{NamedKey}
use Rattle.hmac_sign.proofs.KeySetVerdicts.{not_read}
use Rattle.verifier_core.proofs.binding_file.keys_in.Goals as goal

says_there : (o : Option Tree) (t : Tree) (set : List NamedKey) → Some t ≡ o → Says IsKeySet o set → IsKeySet t set
says_there o t set there h = subst (λ (p : Option Tree). Says IsKeySet p set → IsKeySet t set) there (λ (k : IsKeySet t set). k) h

pub returns-in_default-error : goal.returns-in_default-error
returns-in_default-error c =
    let t = tree_of c.in-Some.tree.now in
    record {
      keys = tt;
      none = λ set says. not_read t c.in-Err.error (λ e. c.in-Err.ensures.not_a_set (ap Err e)) (λ place e. c.in-Err.ensures.not_base64 place (ap Err e)) (λ place e. c.in-Err.ensures.short place (ap Err e)) c.in_default-error.not-Memory set
          (says_there (member_named c.args.members.now (codes "keys")) t set c.in-Some.ensures says);
    }
