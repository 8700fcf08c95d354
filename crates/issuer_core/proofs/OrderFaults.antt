-- An order file is refused by the first of its members that is.
use Rattle.std.proofs.Common.{◌≡◌, ℕ, List, [], ◌∷◌, ◌++◌, take, drop, length, inl, inr, sym, subst, Option}
use Rattle.sd_outside.specs.Limits.{file_max}
use Rattle.claim_tree.specs.Tree.{Text}
use Rattle.claim_tree.specs.TreeValues.{IsText, Says, MaySay, SaysOr, IsListOf, IsPointer}
use Rattle.file_members.specs.FileForms.{Entry, MemberMeets, required, optional, fields_of, found, HasMembers, IsFileRefused}
use Rattle.file_members.specs.FileRefusals.{IsMemberRefused}
use Rattle.file_members.specs.declared.field.Field.{Field}
use Rattle.file_members.specs.declared.field.Field.TheVariants.{Payload, Hide, Decoys, Key, Kid, Typ, SdAlg}
use Rattle.file_members.specs.declared.file_fault.FileFault.{FileFault}
use Rattle.file_members.specs.declared.file_fault.FileFault.TheVariants.{Missing, Wrong}
use Rattle.file_members.proofs.FileMembers.{says_meets, may_say_meets, says_or_meets, AllMeet, member_refused}
use Rattle.hmac_sign.specs.KeyText.{IsKeyBytes}
use Rattle.hmac_sign.specs.declared.alg.Alg.{Alg}
use Rattle.issuer_core.specs.OrderFile.{IsValue, IsDecoy, IsHashText, IsAlgFor, IsAlgOf, HasKey, order_table, IsOrderFileRefused}
use Rattle.issuer_core.specs.UnsignedOrder.{head_table, SaysHead, IsHeadRefused}
use Rattle.issuer_core.specs.declared.order_file.Head.{Head}
use Rattle.issuer_core.proofs.OrderFiles.{refused_as, alg_of_file, alg_meets}

-- a file is refused where its head is, whatever the table has behind it
pub head_refused : (rest : List Entry) (bytes : Text) (fault : FileFault) → IsHeadRefused (fields_of (head_table ++ rest)) bytes fault → IsFileRefused file_max (head_table ++ rest) bytes fault
head_refused rest bytes (Missing field) (inl none) = absurd none
head_refused rest bytes (Wrong field) (inl none) = absurd none
head_refused rest bytes fault (inl none) = none
head_refused rest bytes fault (inr (ms, file, inl refused)) = member_refused file_max [] (required Payload IsValue) (drop 1 head_table ++ rest) bytes ms fault file tt refused
head_refused rest bytes fault (inr (ms, file, inr (payload, inl refused))) =
    member_refused file_max (take 1 head_table) (optional Hide (IsListOf IsPointer)) (drop 2 head_table ++ rest) bytes ms fault file (payload, tt) refused
head_refused rest bytes fault (inr (ms, file, inr (payload, inr (hide, inl refused)))) =
    member_refused file_max (take 2 head_table) (optional Decoys (IsListOf IsDecoy)) rest bytes ms fault file (payload, (hide, tt)) refused
head_refused rest bytes fault (inr (ms, file, inr (payload, inr (hide, inr (decoys, none))))) = absurd none

-- a member that is refused, behind the head and others that meet their entries, is the fault of the file
pub behind_head : (front : List Entry) (entry : Entry) (rest : List Entry) (bytes : Text) (fault : FileFault) (head : Head) → HasMembers file_max (fields_of (head_table ++ (front ++ entry ∷ rest))) bytes head.members
    → SaysHead head → AllMeet front head.members → IsMemberRefused entry head.members fault → IsFileRefused file_max (head_table ++ (front ++ entry ∷ rest)) bytes fault
behind_head front entry rest bytes fault head file says meet refused =
    let hide = says_or_meets (IsListOf IsPointer) [] Hide head.members head.hide says.places.hide in
    let decoys = says_or_meets (IsListOf IsDecoy) [] Decoys head.members head.decoys says.places.decoys in
    member_refused file_max (head_table ++ front) entry rest bytes head.members fault file (says.payload, (hide, (decoys, meet))) refused

module _ (bytes : Text) (fault : FileFault) (head : Head) (says : SaysHead head) (file : HasMembers file_max (fields_of (order_table bytes)) bytes head.members) where
  pub at_key : IsMemberRefused (required Key IsKeyBytes) head.members fault → IsOrderFileRefused bytes fault
  at_key refused = behind_head [] (required Key IsKeyBytes) (drop 4 (order_table bytes)) bytes fault head file says tt refused

  module _ (key : List ℕ) (key_says : Says IsKeyBytes (found head.members Key) key) where
    key_meets : MemberMeets (required Key IsKeyBytes) head.members
    key_meets = says_meets IsKeyBytes Key head.members key key_says

    pub at_kid : IsMemberRefused (optional Kid IsText) head.members fault → IsOrderFileRefused bytes fault
    at_kid refused = behind_head (take 1 (drop 3 (order_table bytes))) (optional Kid IsText) (drop 5 (order_table bytes)) bytes fault head file says (key_meets, tt) refused

    module _ (kid : Option Text) (kid_says : MaySay IsText (found head.members Kid) kid) where
      kid_meets : MemberMeets (optional Kid IsText) head.members
      kid_meets = may_say_meets IsText Kid head.members kid kid_says

      pub at_typ : IsMemberRefused (optional Typ IsText) head.members fault → IsOrderFileRefused bytes fault
      at_typ refused = behind_head (take 2 (drop 3 (order_table bytes))) (optional Typ IsText) (drop 6 (order_table bytes)) bytes fault head file says (key_meets, (kid_meets, tt)) refused

      module _ (typ : Option Text) (typ_says : MaySay IsText (found head.members Typ) typ) (seen : List ℕ) (same : seen ≡ key) where
        typ_meets : MemberMeets (optional Typ IsText) head.members
        typ_meets = may_say_meets IsText Typ head.members typ typ_says

        has_key : HasKey bytes seen
        has_key = record { members = head.members; file = file.object; says = subst (λ (k : List ℕ). Says IsKeyBytes (found head.members Key) k) (sym same) key_says }

        pub at_alg : IsMemberRefused (optional Field.Alg (IsAlgFor (length seen))) head.members fault → IsOrderFileRefused bytes fault
        at_alg refused =
            let as_file = refused_as (IsAlgFor (length seen)) (IsAlgOf bytes) Field.Alg head.members fault (alg_of_file bytes seen has_key) refused in
            behind_head (take 3 (drop 3 (order_table bytes))) (optional Field.Alg (IsAlgOf bytes)) (drop 7 (order_table bytes)) bytes fault head file says (key_meets, (kid_meets, (typ_meets, tt))) as_file

        pub at_hash : (alg : Alg) → SaysOr (IsAlgFor (length seen)) Alg.Hs256 (found head.members Field.Alg) alg → IsMemberRefused (optional SdAlg IsHashText) head.members fault → IsOrderFileRefused bytes fault
        at_hash alg alg_says refused =
            let alg_meets_it = alg_meets bytes seen head.members alg has_key alg_says in
            behind_head (take 4 (drop 3 (order_table bytes))) (optional SdAlg IsHashText) [] bytes fault head file says (key_meets, (kid_meets, (typ_meets, (alg_meets_it, tt)))) refused
