-- The files that a command wants, and what was read of them.
use Rattle.std.proofs.Common.{◌≡◌, ◌∙◌, ◌++◌, ◌∷◌, Bor, IsTrue, List, [], ap, ℕ}
use Rattle.std.specs.List.{AllZip}
use Rattle.dude_io.specs.declared.file_text.FileText.{FileText}
use Rattle.dude_io.specs.Files.{FilesSight}
use Rattle.command_edges.specs.CommandFile.{audit_files, files_of, files_wanted, request_files}
use Rattle.command_edges.specs.declared.file_kind.FileKind.{FileKind}
use Rattle.command_edges.specs.declared.file_kind.FileKind.TheVariants.{Printed, Requests}
use Rattle.command_edges.specs.declared.file_wanted.FileWanted.{FileWanted}
use Rattle.command_edges.specs.Files.{MissesFile}
use Rattle.command_edges.specs.Texts.{IsTextOf}
use Rattle.command_edges.proofs.Told.{none_missing}

-- files that are wanted behind those known
pub all_wanted : (kind : FileKind) (names : List (List ℕ)) (known : List FileWanted) {given wanted earlier : List FileWanted}
    → given ≡ wanted → files_wanted wanted ≡ files_wanted earlier ++ files_of kind names → earlier ≡ known
    → files_wanted given ≡ files_wanted known ++ files_of kind names
all_wanted kind names known same added is =
    ap files_wanted same ∙ (added ∙ ap (λ (l : List FileWanted). files_wanted l ++ files_of kind names) is)

-- the texts of a printed run and of its request files, which were wanted in this order
pub audit_read : (s : FilesSight) (printed : Bor (List ℕ)) (names : List (List ℕ)) (texts : List FileText) {given wanted pushed none : List FileWanted}
    → given ≡ wanted → files_wanted wanted ≡ files_wanted pushed ++ request_files names
    → pushed ≡ none ++ record { name = printed; kind = Printed } ∷ [] → none ≡ []
    → AllZip (IsTextOf s) (files_wanted given) texts → AllZip (IsTextOf s) (audit_files printed.now names) texts
audit_read s printed names texts same added pushes empty read =
    let first : FileWanted = record { name = printed; kind = Printed } in
    rw (all_wanted Requests names (first ∷ []) same added (pushes ∙ ap (λ (l : List FileWanted). l ++ first ∷ []) empty)) at read

-- where they are visible, each of these files is there
pub audit_there : (s : FilesSight) (printed : Bor (List ℕ)) (names : List (List ℕ)) (texts : List FileText) {given wanted pushed none : List FileWanted}
    → given ≡ wanted → files_wanted wanted ≡ files_wanted pushed ++ request_files names
    → pushed ≡ none ++ record { name = printed; kind = Printed } ∷ [] → none ≡ []
    → AllZip (IsTextOf s) (files_wanted given) texts → IsTrue s.is_visible → MissesFile (audit_files printed.now names) s → ⊥
audit_there s printed names texts same added pushes empty read =
    none_missing s (audit_files printed.now names) texts (audit_read s printed names texts same added pushes empty read)
