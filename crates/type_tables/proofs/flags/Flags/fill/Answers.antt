use Rattle.std.proofs.Common.{◌≡◌, ◌-◌, ◌^◌, true, map, replicate, ap, ◌∙◌, arith}
use Rattle.std.specs.Prelude.{vec_len}
use Rattle.type_tables.specs.Flags.{flags_from}
use Rattle.type_tables.proofs.Rows.{fill_row}
use Rattle.type_tables.proofs.flags.Flags.fill.Goals as goal

pub returns : goal.returns
returns c =
    let words = c.self.inside.words in
    let all : c.fill.new.self.items ≡ replicate (vec_len words) (2 ^ 64 - 1) = c.fill.ensures.items (λ y h. h) in
    ap (λ ws. flags_from ws 0 c.self.inside.len) all
    ∙ fill_row words.items (vec_len words) 0 c.self.inside.len (omega (arith, words.ok.0))
    ∙ ap (map (λ flag. true)) c.self.view_is
