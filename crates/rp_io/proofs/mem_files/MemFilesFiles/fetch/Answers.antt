use Rattle.std.proofs.Common.{refl}
use Rattle.rp_io.proofs.Found.{sound_never_fails}
use Rattle.rp_io.proofs.mem_files.MemFilesFiles.fetch.Goals as goal

pub returns-in-None-clause-failed : goal.returns-in-None-clause-failed
returns-in-None-clause-failed c =
    rw (← c.self.view_is, ← c.deref.ensures.value, ← c.deref-2.ensures.value) (λ _. c.in-None.ensures.fails.0 refl, λ _. refl)

pub returns-in-None-clause-sound_names : goal.returns-in-None-clause-sound_names
returns-in-None-clause-sound_names c =
    rw (← c.self.view_is, ← c.deref.ensures.value, ← c.deref-2.ensures.value) (λ sound. absurd (sound_never_fails _ _ _ _ (c.in-None.ensures.fails.0 refl) sound))
