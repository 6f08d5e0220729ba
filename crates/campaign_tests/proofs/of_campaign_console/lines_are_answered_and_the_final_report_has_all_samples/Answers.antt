use Rattle.ra_base.proofs.Crossing.{console_arg_send}
use Rattle.campaign_tests.proofs.of_campaign_console.lines_are_answered_and_the_final_report_has_all_samples.Goals as goal

pub ran-requires-send-C : goal.ran-requires-send-C
ran-requires-send-C g c κs =
    record { owned = λ x vs. (console_arg_send 1).owned x vs; leaving = λ k x w. (console_arg_send 1).leaving k x w }
