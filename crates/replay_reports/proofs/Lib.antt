mod OneReport
