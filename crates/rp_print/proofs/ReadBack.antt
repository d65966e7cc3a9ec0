-- The printed form of a text's tree is a text of that tree, spans aside.
use Rattle.std.proofs.Common.{ℕ, List, [], ◌∷◌, refl}
use Rattle.rp_grammar.specs.Trees.{DeclTree}
use Rattle.rp_grammar.specs.Texts.{IsText}
use Rattle.rp_grammar.proofs.Formed.{FormedDecls}
use Rattle.rp_grammar.proofs.FormedTexts.{Lexable, text_formed}
use Rattle.rp_print.specs.Printed.{decl_terminals, printed}
use Rattle.rp_print.specs.Alike.{Alike}
use Rattle.rp_print.proofs.BackBytes.{ReadsAs, read_nothing, read_line}
use Rattle.rp_print.proofs.BackDecls.{program_terminals, program_back}
use Rattle.rp_print.proofs.PrintedTerminals.{all_decl}

printed_reads : {text : List ℕ} (ds : List DeclTree) → FormedDecls Lexable ds → ReadsAs text (printed ds) (program_terminals ds)
printed_reads {text = text} [] h = read_nothing text
printed_reads (d ∷ ds) h = read_line (decl_terminals d) (printed ds) (program_terminals ds) (all_decl Lexable (λ w. tt) (λ m. tt) d h.0) (printed_reads ds h.1)

pub reads_back : (bytes : List ℕ) (tree : List DeclTree) → IsText bytes tree → (other : List DeclTree) × IsText (printed tree) other × Alike tree other
reads_back bytes tree t =
    let h = text_formed bytes tree t in
    let f = (printed_reads {text = printed tree} tree h).from 0 refl in
    let g = program_back Lexable tree h f.1 f.4 in
    (g.2, (f.1, (f.0, f.2, f.3), (g.0, g.1, g.3)), g.4)
