pub mod StepLabels
