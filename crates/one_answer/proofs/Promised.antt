-- THE PROMISES ARE THE CONTRACTS: what a caller learns of an entry, of its result and of the slices at its exit, is the claim of specs/Promise.
-- So the theorems on those claims are about the very contracts.
use mathlib.Core.Bool.{Bool}
use contract.Lifetimes.{Lfts}
use denote.Triple.Clauses.{AtExit}
use borrow.Fn.Kinds.{Dens, ended_of}
use Rattle.answers.specs.declared.Folded.{Folded}
use Rattle.answers.specs.declared.Written.{Written}
use Rattle.answers.specs.declared.Answer.{Answer}
use Rattle.hours.proofs.fold.Kinds as fold-kinds
use Rattle.hours.proofs.fold.Reads as fold-reads
use Rattle.hours.proofs.lookup.Kinds as lookup-kinds
use Rattle.hours.proofs.lookup.Reads as lookup-reads
use Rattle.hours.proofs.write_back.Kinds as write-back-kinds
use Rattle.hours.proofs.write_back.Reads as write-back-reads
use Rattle.hours.proofs.line.Kinds as line-kinds
use Rattle.hours.proofs.line.Reads as line_reads_lem
use Rattle.hours.proofs.convert.Kinds as convert-kinds
use Rattle.hours.proofs.convert.Reads as convert-reads
use Rattle.hours.proofs.export.hours_fold.Kinds as hours-fold-kinds
use Rattle.hours.proofs.export.hours_fold.Reads as hours-fold-reads
use Rattle.hours.proofs.export.hours_lookup.Kinds as hours-lookup-kinds
use Rattle.hours.proofs.export.hours_lookup.Reads as hours-lookup-reads
use Rattle.hours.proofs.export.hours_write_back.Kinds as hours-write-back-kinds
use Rattle.hours.proofs.export.hours_write_back.Reads as hours-write-back-reads
use Rattle.hours.proofs.export.hours_line.Kinds as hours-line-kinds
use Rattle.hours.proofs.export.hours_line.Reads as hours-line-reads
use Rattle.hours.proofs.export.hours_convert.Kinds as hours-convert-kinds
use Rattle.hours.proofs.export.hours_convert.Reads as hours-convert-reads
use Rattle.one_answer.specs.Promise.{FoldPromise, WriteBackPromise, LinePromise, ConvertPromise, ExportedFoldPromise, ExportedWriteBackPromise, ExportedLinePromise, ExportedConvertPromise, LookupPromise, ExportedLookupPromise}

pub fold-promised : (κs : Lfts 2) (a : Dens κs fold-kinds.ps) (r : Folded) (e : AtExit (ended_of 2 fold-kinds.ps fold-kinds.r) κs)
    → fold-reads.Learnt κs a r e → FoldPromise a.0 a.1.0.now a.1.1.0.now (r, e.1.1.0.now)
fold-promised κs a r e h = h

pub write-back-promised : (κs : Lfts 2) (a : Dens κs write-back-kinds.ps) (r : Written) (e : AtExit (ended_of 2 write-back-kinds.ps write-back-kinds.r) κs)
    → write-back-reads.Learnt κs a r e → WriteBackPromise a.0 a.1.0.now a.1.1.0.now (r, e.1.1.0.now)
write-back-promised κs a r e h = h

pub line-promised : (κs : Lfts 2) (a : Dens κs line-kinds.ps) (r : Written) (e : AtExit (ended_of 2 line-kinds.ps line-kinds.r) κs)
    → line_reads_lem.Learnt κs a r e → LinePromise a.0 a.1.0.now a.1.1.0.now (r, e.1.1.0.now)
line-promised κs a r e h = h

pub convert-promised : (κs : Lfts 2) (a : Dens κs convert-kinds.ps) (r : Written) (e : AtExit (ended_of 2 convert-kinds.ps convert-kinds.r) κs)
    → convert-reads.Learnt κs a r e → ConvertPromise a.0 a.1.0.now a.1.1.0.now (r, e.1.1.0.now)
convert-promised κs a r e h = h

pub lookup-promised : (κs : Lfts 1) (a : Dens κs lookup-kinds.ps) (r : Answer) (e : AtExit (ended_of 1 lookup-kinds.ps lookup-kinds.r) κs)
    → lookup-reads.Learnt κs a r e → LookupPromise a.0 a.1.0.now a.1.1.0 a.1.1.1.0 a.1.1.1.1.0 a.1.1.1.1.1.0 r
lookup-promised κs a r e h = h

pub hours-fold-promised : (κs : Lfts 3) (a : Dens κs hours-fold-kinds.ps) (r : Bool) (e : AtExit (ended_of 3 hours-fold-kinds.ps hours-fold-kinds.r) κs)
    → hours-fold-reads.Learnt κs a r e
    → ExportedFoldPromise a.0 a.1.0.now a.1.1.0.now a.1.1.1.0.now (r, (e.1.1.1.0.now, e.1.1.0.now))
hours-fold-promised κs a r e h = h

pub hours-write-back-promised : (κs : Lfts 3) (a : Dens κs hours-write-back-kinds.ps) (r : Bool) (e : AtExit (ended_of 3 hours-write-back-kinds.ps hours-write-back-kinds.r) κs)
    → hours-write-back-reads.Learnt κs a r e
    → ExportedWriteBackPromise a.0 a.1.0.now a.1.1.0.now a.1.1.1.0.now (r, (e.1.1.1.0.now, e.1.1.0.now))
hours-write-back-promised κs a r e h = h

pub hours-line-promised : (κs : Lfts 3) (a : Dens κs hours-line-kinds.ps) (r : Bool) (e : AtExit (ended_of 3 hours-line-kinds.ps hours-line-kinds.r) κs)
    → hours-line-reads.Learnt κs a r e
    → ExportedLinePromise a.0 a.1.0.now a.1.1.0.now a.1.1.1.0.now (r, (e.1.1.1.0.now, e.1.1.0.now))
hours-line-promised κs a r e h = h

pub hours-convert-promised : (κs : Lfts 3) (a : Dens κs hours-convert-kinds.ps) (r : Bool) (e : AtExit (ended_of 3 hours-convert-kinds.ps hours-convert-kinds.r) κs)
    → hours-convert-reads.Learnt κs a r e
    → ExportedConvertPromise a.0 a.1.0.now a.1.1.0.now a.1.1.1.0.now (r, (e.1.1.1.0.now, e.1.1.0.now))
hours-convert-promised κs a r e h = h

pub hours-lookup-promised : (κs : Lfts 2) (a : Dens κs hours-lookup-kinds.ps) (r : Bool) (e : AtExit (ended_of 2 hours-lookup-kinds.ps hours-lookup-kinds.r) κs)
    → hours-lookup-reads.Learnt κs a r e
    → ExportedLookupPromise a.0 a.1.0.now a.1.1.0 a.1.1.1.0 a.1.1.1.1.0 a.1.1.1.1.1.0 a.1.1.1.1.1.1.0.now
    (r, e.1.1.1.1.1.1.0.now)
hours-lookup-promised κs a r e h = h
