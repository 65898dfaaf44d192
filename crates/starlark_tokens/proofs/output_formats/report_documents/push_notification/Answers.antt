use Rattle.std.proofs.Common.{◌++◌, ◌∙◌, ap, codes, decimal, string_bytes}
use Rattle.starlark_tokens.proofs.AppendedTexts.{five}
use Rattle.starlark_tokens.specs.OutputFormats.ReportDocuments.{notification}
use Rattle.starlark_tokens.proofs.output_formats.report_documents.push_notification.Goals as goal

pub returns : goal.returns
unfolding notification
returns c =
    let text = string_bytes c.args.text.now in
    let begin = codes ",\"toolExecutionNotifications\":[{\"level\":\"error\",\"message\":{\"text\":\"" in
    let count = codes "files that couldn't be read: " ++ decimal c.args.unreadable in
    let end = codes "\"}}" in
    let notices = c.args.notices.now in
    let counted = c.in_ok-push_count.ensures ∙ ap (λ t. t ++ count) c.in_ok-push_str.ensures.bytes in
    let first = c.in_ok-push_str-2.ensures.bytes ∙ ap (λ t. t ++ end) counted in
    c.in_ok-push_str-4.ensures.bytes
    ∙ ap (λ t. t ++ codes "]") (c.in_ok-push_str-3.ensures.bytes ∙ ap (λ t. t ++ notices) first)
    ∙ five text begin count end notices (codes "]")
