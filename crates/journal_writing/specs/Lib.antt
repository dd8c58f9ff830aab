pub mod StepNamed
