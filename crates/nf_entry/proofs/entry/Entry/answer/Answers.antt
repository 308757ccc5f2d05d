use Rattle.nf_entry.proofs.Bits.{tells}
use Rattle.nf_entry.proofs.entry.Entry.answer.Goals as goal

pub returns-in-Nfd : goal.returns-in-Nfd
returns-in-Nfd c = λ x is. rw c.in-Nfd.is ((tells _ x is).nfd)

pub returns-in-Nfkd : goal.returns-in-Nfkd
returns-in-Nfkd c = λ x is. rw c.in-Nfkd.is ((tells _ x is).nfkd)

pub returns-in-Nfc : goal.returns-in-Nfc
returns-in-Nfc c = λ x is. rw c.in-Nfc.is ((tells _ x is).nfc)

pub returns-in-Nfkc : goal.returns-in-Nfkc
returns-in-Nfkc c = λ x is. rw c.in-Nfkc.is ((tells _ x is).nfkc)
