use Rattle.lawful_programs.proofs.Exprs.{valued}
use Rattle.lawful_programs.proofs.laws.expressions_have_values.Goals as goal

pub returns : goal.returns
returns c = λ t b uses ready vs sc w e decl seen vars asked sound.
    valued t b uses ready sc vs w e (record { decl = decl; seen = seen; whole = vars }) asked sound
