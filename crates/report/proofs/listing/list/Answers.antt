use Rattle.std.proofs.Common.{inl, subst, string_bytes}
use Rattle.std.proofs.lemmas.Result.{IfOk-weaker}
use Rattle.report.specs.Listing.{ListsRecords}
use Rattle.report.proofs.listing.list.Goals as goal

pub returns-in-Ok : goal.returns-in-Ok
returns-in-Ok c =
    IfOk-weaker c.list_records.result _ _
    (λ s listed. inl
    (c.in-Ok.records.items, c.in-Ok.ensures.0, c.in-Ok.ensures.1, subst (λ xs. ListsRecords xs (string_bytes s)) c.deref.ensures.value listed))
    c.list_records.ensures
