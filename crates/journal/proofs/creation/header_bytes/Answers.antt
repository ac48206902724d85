use Rattle.journal.proofs.creation.header_bytes.Goals as goal

pub returns-clause-bytes : goal.returns-clause-bytes
returns-clause-bytes c = simp
    (c.copy_from_slice.ensures.after, c.number.ensures, c.copy_from_slice-2.ensures.after, c.bytes.ensures.value)
