-- A query is refused by the first of its members that is.
use Rattle.std.proofs.Common.{List, [], take, drop}
use Rattle.sd_outside.specs.Limits.{file_max}
use Rattle.claim_tree.specs.Tree.{Text, Members}
use Rattle.claim_tree.specs.TreeValues.{Says, SaysOr, IsListOf, IsPointer}
use Rattle.file_members.specs.FileForms.{required, optional, fields_of, found, HasMembers}
use Rattle.file_members.specs.FileRefusals.{IsMemberRefused}
use Rattle.file_members.specs.declared.field.Field.TheVariants as field
use Rattle.file_members.specs.declared.file_fault.FileFault.{FileFault}
use Rattle.file_members.proofs.FileMembers.{says_meets, says_or_meets, member_refused}
use Rattle.hmac_sign.specs.Keys.{IsKeySet}
use Rattle.hmac_sign.specs.declared.key_set.NamedKey.{NamedKey}
use Rattle.wallet_core.specs.QueryFile.{IsEqual, query_table, IsQueryFileRefused}
use Rattle.wallet_core.specs.declared.query.Equal.{Equal}

module _ (bytes : Text) (ms : Members) (fault : FileFault) (file : HasMembers file_max (fields_of query_table) bytes ms) where
  pub at_keys : IsMemberRefused (required field.Keys IsKeySet) ms fault → IsQueryFileRefused bytes fault
  at_keys refused = member_refused file_max [] (required field.Keys IsKeySet) (drop 1 query_table) bytes ms fault file tt refused

  module _ (keys : List NamedKey) (keys_say : Says IsKeySet (found ms field.Keys) keys) where
    pub at_want : IsMemberRefused (optional field.Want (IsListOf IsPointer)) ms fault → IsQueryFileRefused bytes fault
    at_want refused = member_refused file_max (take 1 query_table) (optional field.Want (IsListOf IsPointer)) (drop 2 query_table) bytes ms fault file (says_meets IsKeySet field.Keys ms keys keys_say, tt) refused

    module _ (want : List (List Text)) (want_says : SaysOr (IsListOf IsPointer) [] (found ms field.Want) want) where
      pub at_equal : IsMemberRefused (optional field.Equal (IsListOf IsEqual)) ms fault → IsQueryFileRefused bytes fault
      at_equal refused =
          let keys_meet = says_meets IsKeySet field.Keys ms keys keys_say in
          let want_meets = says_or_meets (IsListOf IsPointer) [] field.Want ms want want_says in
          member_refused file_max (take 2 query_table) (optional field.Equal (IsListOf IsEqual)) (drop 3 query_table) bytes ms fault file (keys_meet, (want_meets, tt)) refused

      pub at_never : (equal : List Equal) → SaysOr (IsListOf IsEqual) [] (found ms field.Equal) equal → IsMemberRefused (optional field.Never (IsListOf IsPointer)) ms fault → IsQueryFileRefused bytes fault
      at_never equal equal_says refused =
          let keys_meet = says_meets IsKeySet field.Keys ms keys keys_say in
          let want_meets = says_or_meets (IsListOf IsPointer) [] field.Want ms want want_says in
          let equal_meets = says_or_meets (IsListOf IsEqual) [] field.Equal ms equal equal_says in
          member_refused file_max (take 3 query_table) (optional field.Never (IsListOf IsPointer)) [] bytes ms fault file (keys_meet, (want_meets, (equal_meets, tt))) refused

pub ruleset refused_at = (at_keys, at_want, at_equal, at_never)
